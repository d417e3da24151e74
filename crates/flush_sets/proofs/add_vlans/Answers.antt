-- `flush_sets::add_vlans` meets its contract: past the end of the set there is no VLAN.
use Rattle.flush_sets.proofs.Maps.{vlans_added, vlans_past}
use Rattle.flush_sets.proofs.add_vlans.Goals as goal

pub returns-then-w-le511 : goal.returns-then-w-le511
returns-then-w-le511 c = search vlans_added

pub returns-else-w-le511 : goal.returns-else-w-le511
returns-else-w-le511 c = search vlans_past
