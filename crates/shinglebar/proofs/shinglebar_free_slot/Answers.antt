-- `shinglebar::shinglebar_free_slot` meets its contract: the word of the answer.
use mathlib.Core.Path.{ap, ◌∙◌}
use Rattle.table.specs.Words.{free_word}
use Rattle.shinglebar.proofs.shinglebar_free_slot.Goals as goal

pub returns : goal.returns
returns c = c.free_word.ensures ∙ ap free_word c.free_slot.ensures
