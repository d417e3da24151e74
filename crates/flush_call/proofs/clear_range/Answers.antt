-- `flush_call::clear_range` meets its contract: by a walk or by marks, what is cleared is the same.
use mathlib.Core.Path.{◌∙◌}
use Rattle.flush_call.proofs.Walks.{swept_same, noted_meant}
use Rattle.flush_call.proofs.clear_range.Goals as goal

pub returns-then-count-rest : goal.returns-then-count-rest
returns-then-count-rest c =
    let noted = c.requires.1.1 in
    c.clear_walked.ensures ∙ swept_same _ _ (noted_meant _ _ _ noted _ _) _ _ _
