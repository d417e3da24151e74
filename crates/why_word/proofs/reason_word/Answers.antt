-- `why_word::reason_word` meets its contract: each reason has its word.
use mathlib.Core.Path.{sym, ap, ◌∙◌}
use Rattle.why.specs.Words.{why_word}
use Rattle.why.specs.declared.Reason.{Reason}
use Rattle.why_word.proofs.reason_word.Goals as goal
use Rattle.std.specs.Prelude.{Ok}

pub returns-in-Free : goal.returns-in-Free
returns-in-Free c = rw c.in-Free.is

pub returns-in-Spoilt : goal.returns-in-Spoilt
returns-in-Spoilt c = rw c.in-Spoilt.is

pub returns-in-Configured : goal.returns-in-Configured
returns-in-Configured c = rw c.in-Configured.is

pub returns-in-NicknameNotMeant : goal.returns-in-NicknameNotMeant
returns-in-NicknameNotMeant c = rw c.in-NicknameNotMeant.is

pub returns-in-LabelNotMeant : goal.returns-in-LabelNotMeant
returns-in-LabelNotMeant c = rw c.in-LabelNotMeant.is

pub returns-in-MacNotMeant : goal.returns-in-MacNotMeant
returns-in-MacNotMeant c = rw c.in-MacNotMeant.is

pub returns-in-Cleared : goal.returns-in-Cleared
returns-in-Cleared c = c.places_word.ensures ∙ ap (λ (q : Reason). why_word (Ok q)) (sym c.in-Cleared.is)
