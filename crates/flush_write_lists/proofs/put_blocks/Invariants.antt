use Prim.Native.Nat.{◌-◌}
use lib.ListN.{length}
use Rattle.flush_write_lists.proofs.Laws.{Blocking}
use Rattle.flush_write_lists.proofs.put_blocks.Given as goal

abbrev pub invariant-loop-from : goal.invariant-loop-from
invariant-loop-from l = Blocking l.l l.k l.size l.initial.out l.at l.out l.from l.to

abbrev pub decreases-loop-from : goal.decreases-loop-from
decreases-loop-from l = length l.l - l.from
