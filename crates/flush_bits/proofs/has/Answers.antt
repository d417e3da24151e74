-- `flush_bits::has` meets its contract: a shift is a division.
use mathlib.Core.Path.{refl}
use Rattle.numbers.specs.Numberings.{bit_of, bit_at}
use Rattle.flush_bits.proofs.has.Goals as goal

pub returns : goal.returns
unfolding bit_at bit_of
returns c = refl
