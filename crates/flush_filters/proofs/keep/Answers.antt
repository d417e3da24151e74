-- `flush_filters::keep` meets its contract: areas that are too small do nothing, and the largest hold every slot.
use mathlib.Core.Path.{◌≡◌, ◌∙◌}
use borrow.Author.Rules.{rules}
use Rattle.flush_filters.proofs.Laws.{room_for_all}
use Rattle.flush_filters.proofs.keep.Goals as goal
use Rattle.flush_filters.proofs.keep.Goals.{else-n-le-FEW-via-then-n-le-FEW+else-keep_within, else-n-le-FEW-via-else-n-le-FEW, else-n-le-SOME-via-then-n-le-SOME+else-keep_within-2, else-n-le-SOME-via-else-n-le-SOME}

pub returns : goal.returns
returns c =
    let few = c.requires.few in
    let first : c.else-n-le-FEW.marks ≡ c.args.marks.now = elim c.else-n-le-FEW.branch [
      | else-n-le-FEW-via-then-n-le-FEW+else-keep_within w ↦ w.marks-is ∙ w.keep_within.ensures.0.same w.if-keep_within.false
      | else-n-le-FEW-via-else-n-le-FEW w ↦ w.marks-is
    ] in
    let same : c.else-n-le-SOME.marks ≡ c.args.marks.now = elim c.else-n-le-SOME.branch [
      | else-n-le-SOME-via-then-n-le-SOME+else-keep_within-2 w ↦ w.marks-is ∙ w.keep_within-then-n-le-SOME.ensures.0.same w.if-keep_within-2.false ∙ first
      | else-n-le-SOME-via-else-n-le-SOME w ↦ w.marks-is ∙ first
    ] in
    rw same at (room_for_all _ _ _ _ _ c.keep_within-2.ensures.0 _ c.keep_within-2.ensures.1 (search rules))
