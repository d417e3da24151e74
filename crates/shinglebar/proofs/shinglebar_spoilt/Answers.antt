-- `shinglebar::shinglebar_spoilt` meets its contract: the word of the answer.
use mathlib.Core.Path.{ap, ◌∙◌}
use Rattle.table.specs.Words.{spoilt_word}
use Rattle.shinglebar.proofs.shinglebar_spoilt.Goals as goal

pub returns : goal.returns
returns c = c.found_word.ensures.spoilt ∙ ap spoilt_word c.lowest_spoilt.ensures
