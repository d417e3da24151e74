-- `flush_vlans::add_tlvs` meets its contract. The invariant: what was added and what is left make up the whole.
use Prim.Native.Nat.{◌-◌}
use Rattle.flush_vlans.proofs.Laws.{walk_start, walk_cut, walk_next, walk_done}
use Rattle.flush_vlans.proofs.add_tlvs.Goals as goal

pub loop-at-init : goal.loop-at-init
loop-at-init c = search walk_start

pub returns-then-l-e : goal.returns-then-l-e
returns-then-l-e c = search walk_cut

pub loop-at-preserved : goal.loop-at-preserved
loop-at-preserved c = search walk_next

pub returns : goal.returns
returns c = search walk_done
