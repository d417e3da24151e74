use Prim.Native.Nat.{◌-◌}
use lib.ListN.{length}
use Rattle.flush_intervals.proofs.Walks.{Walking}
use Rattle.flush_intervals.proofs.hit_named.Given as goal

abbrev pub invariant-loop-at : goal.invariant-loop-at
invariant-loop-at l = Walking l.naming l.l l.keys l.initial.hits l.hits l.at

abbrev pub decreases-loop-at : goal.decreases-loop-at
decreases-loop-at l = length l.l - l.at
