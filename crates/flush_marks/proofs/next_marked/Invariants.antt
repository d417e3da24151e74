use Prim.Native.Nat.{◌-◌, ◌≤◌}
use Rattle.flush_marks.specs.Marks.{Unmarked}
use Rattle.flush_marks.proofs.next_marked.Given as goal

abbrev pub invariant-loop-k : goal.invariant-loop-k
invariant-loop-k l = (l.from ≤ l.k) × Unmarked l.marks l.from l.k

abbrev pub decreases-loop-k : goal.decreases-loop-k
decreases-loop-k l = l.n - l.k
