-- `numbers::fill8` meets its contract: the low bytes of the number in the other order are the number's bytes.
use mathlib.Core.Path.{◌∙◌}
use Rattle.numbers.proofs.Swapped.{low_swapped8}
use Rattle.numbers.proofs.fill8.Goals as goal

pub returns : goal.returns
returns c = c.put_le8.ensures ∙ rw c.swap8.ensures (low_swapped8 _)
