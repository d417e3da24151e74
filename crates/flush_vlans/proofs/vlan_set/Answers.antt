-- `flush_vlans::vlan_set` meets its contract: every VLAN, or those that are named.
use Rattle.flush_vlans.proofs.Laws.{set_every, set_named}
use Rattle.flush_vlans.proofs.vlan_set.Goals as goal

pub returns-then-f : goal.returns-then-f
returns-then-f c = search set_every

pub returns : goal.returns
returns c = search set_named
