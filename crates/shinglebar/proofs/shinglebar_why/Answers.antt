-- `shinglebar::shinglebar_why` meets its contract: the word of the answer.
use mathlib.Core.Path.{ap, ◌∙◌}
use Rattle.why.specs.Words.{why_word}
use Rattle.shinglebar.proofs.shinglebar_why.Goals as goal

pub returns : goal.returns
returns c = c.why_word.ensures ∙ ap why_word c.explain.ensures
