use Prim.Native.Nat.{◌-◌}
use Rattle.flush_marks.proofs.Listing.{ListedTo}
use Rattle.flush_marks.proofs.list_marked.Given as goal

abbrev pub invariant-loop-k : goal.invariant-loop-k
invariant-loop-k l = ListedTo l.marks l.n l.initial.slots l.k l.c l.slots

abbrev pub decreases-loop-k : goal.decreases-loop-k
decreases-loop-k l = l.n - l.k
