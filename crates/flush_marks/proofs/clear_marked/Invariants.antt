use Prim.Native.Nat.{◌-◌, ◌≤◌}
use Rattle.flush_marks.specs.Marks.{ClearedTo}
use Rattle.flush_marks.proofs.clear_marked.Given as goal

abbrev pub invariant-loop-k : goal.invariant-loop-k
invariant-loop-k l = (l.k ≤ l.n) × ClearedTo l.marks l.initial.table l.k l.count l.table

abbrev pub decreases-loop-k : goal.decreases-loop-k
decreases-loop-k l = l.n - l.k
