-- `why_word::why_word` meets its contract: a refusal is its number.
use mathlib.Core.Path.{sym, ap, ◌∙◌}
use Rattle.why.specs.Words.{why_word}
use Rattle.why_word.proofs.why_word.Goals as goal

pub returns-in-Ok : goal.returns-in-Ok
returns-in-Ok c = c.reason_word.ensures ∙ ap why_word (sym c.in-Ok.is)
