use Prim.Native.Nat.{◌-◌}
use lib.ListN.{length}
use Rattle.flush_payload.specs.Judging.{EmptyPassed}
use Rattle.flush_payload.proofs.pass_empty.Given as goal

abbrev pub invariant-loop-at : goal.invariant-loop-at
invariant-loop-at l = EmptyPassed l.l l.from l.at

abbrev pub decreases-loop-at : goal.decreases-loop-at
decreases-loop-at l = length l.l - l.at
