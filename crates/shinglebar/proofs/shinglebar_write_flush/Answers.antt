-- `shinglebar::shinglebar_write_flush` meets its contract: the word of the answer, and the area that the call left.
use mathlib.Core.Path.{ap}
use Rattle.numbers.specs.After.{area_as}
use Rattle.flush_write.specs.Words.{write_word}
use Rattle.shinglebar.proofs.shinglebar_write_flush.Goals as goal

pub returns : goal.returns
returns c = rw c.written_word.ensures.write (ap (area_as write_word) c.write_flush.ensures)
