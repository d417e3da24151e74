-- `shinglebar::shinglebar_flush_portion` meets its contract: the word of the answer, and the table that the portion left.
use mathlib.Core.Path.{ap}
use Rattle.numbers.specs.After.{table_as}
use Rattle.portions.specs.Words.{portion_word}
use Rattle.shinglebar.proofs.shinglebar_flush_portion.Goals as goal

pub returns : goal.returns
returns c = rw c.portion_word.ensures (ap (table_as portion_word) c.portion.ensures)
