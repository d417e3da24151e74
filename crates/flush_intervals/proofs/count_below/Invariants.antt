use Prim.Native.Nat.{◌*◌}
use Rattle.flush_buckets.specs.Buckets.{key_slots}
use Rattle.flush_intervals.proofs.Ranges.{Bracket}
use Rattle.flush_intervals.proofs.count_below.Given as goal

abbrev pub invariant-loop-n : goal.invariant-loop-n
invariant-loop-n l = Bracket l.keys (l.z * key_slots) l.base l.n

abbrev pub decreases-loop-n : goal.decreases-loop-n
decreases-loop-n l = l.n
