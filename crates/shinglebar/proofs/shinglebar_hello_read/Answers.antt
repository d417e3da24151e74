-- `shinglebar::shinglebar_hello_read` meets its contract: the word of the answer, and the area that the call left.
use Rattle.hello.specs.Words.{hello_word}
use Rattle.numbers.specs.After.{area_as}
use mathlib.Core.Path.{ap}
use Rattle.shinglebar.proofs.shinglebar_hello_read.Goals as goal

pub returns : goal.returns
returns c = rw c.hello_word.ensures (ap (area_as hello_word) c.hello_read.ensures)
