-- `flush_nicknames::mark_from` meets its contract. The invariant: of the slots from `from` on and before `k` those that pass the tests are marked.
use native.Mathlib.Omega.{arith}
use Rattle.flush_marks.proofs.Filters.{mark_hit, mark_miss, mark_ends}
use Rattle.flush_nicknames.proofs.First.{marked_near}
use Rattle.flush_nicknames.proofs.mark_from.Goals as goal
use Rattle.flush_nicknames.proofs.mark_from.Goals.{then-marked_at, else-marked_at}

pub loop-k-preserved : goal.loop-k-preserved
loop-k-preserved g c =
    let at = c.loop-k in (
      omega arith,
      elim c.if-marked_at.branch [
        | then-marked_at w ↦ rw w.marks-is (mark_hit _ (marked_near _ _ _) _ _ _ _ at.invariant.1 _ c.marked_at.ensures (omega arith) w.if-marked_at.true _ w.add_mark.ensures)
        | else-marked_at w ↦ rw w.marks-is (mark_miss _ (marked_near _ _ _) _ _ _ _ at.invariant.1 _ c.marked_at.ensures (omega arith) w.if-marked_at.false)
      ],
    )

pub returns : goal.returns
returns g c = (omega arith, mark_ends _ (marked_near _ _ _) _ _ _ _ c.loop-k.invariant.1 _ (omega arith) (omega arith))
