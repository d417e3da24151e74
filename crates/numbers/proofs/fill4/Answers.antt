-- `numbers::fill4` meets its contract: the low bytes of the number in the other order are the number's bytes.
use mathlib.Core.Path.{◌∙◌}
use Rattle.numbers.proofs.Swapped.{low_swapped4}
use Rattle.numbers.proofs.fill4.Goals as goal

pub returns : goal.returns
returns c = c.put_le4.ensures ∙ rw c.swap4.ensures.0 (low_swapped4 _)
