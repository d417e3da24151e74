use Prim.Native.Nat.{◌-◌}
use lib.ListN.{length}
use Rattle.flush_write_lists.proofs.Laws.{Tlving}
use Rattle.flush_write_lists.proofs.put_tlvs.Given as goal

abbrev pub invariant-loop-from : goal.invariant-loop-from
invariant-loop-from l = Tlving l.l l.k l.size l.full l.kind l.initial.out l.at l.out l.from l.to

abbrev pub decreases-loop-from : goal.decreases-loop-from
decreases-loop-from l = length l.l - l.from
