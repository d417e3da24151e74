-- `shinglebar::shinglebar_lookup` meets its contract: the word of the answer.
use mathlib.Core.Path.{ap, ◌∙◌}
use Rattle.table.specs.Words.{lookup_word}
use Rattle.shinglebar.proofs.shinglebar_lookup.Goals as goal

pub returns : goal.returns
returns c = c.found_word.ensures.lookup ∙ ap lookup_word c.lookup.ensures
