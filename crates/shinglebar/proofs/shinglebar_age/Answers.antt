-- `shinglebar::shinglebar_age` meets its contract: the word of the answer, and the table that ageing left.
use mathlib.Core.Path.{ap}
use Rattle.numbers.specs.After.{table_as}
use Rattle.table.specs.Words.{age_word}
use Rattle.shinglebar.proofs.shinglebar_age.Goals as goal

pub returns : goal.returns
returns c = rw c.age_word.ensures (ap (table_as age_word) c.age.ensures)
