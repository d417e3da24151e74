-- `flush_marks::list_marked` meets its contract. The invariant: the first `c` numbers of the list are the marked slots before `k`.
use native.Mathlib.Omega.{arith}
use Rattle.flush_marks.proofs.Listing.{listed_none, listed_next}
use Rattle.flush_marks.proofs.list_marked.Goals as goal

pub loop-k-init : goal.loop-k-init
loop-k-init c = search listed_none

pub loop-k-preserved : goal.loop-k-preserved
loop-k-preserved c = listed_next _ _ _ _ _ _ c.loop-k.invariant (omega arith) c.if-c-slots.false _ c.has.ensures _ c.one-c.ensures
