-- `flush_members::bit` meets its contract: a shift is a division.
use mathlib.Core.Path.{refl}
use Rattle.numbers.specs.Numberings.{bit_of}
use Rattle.flush_members.proofs.bit.Goals as goal

pub returns : goal.returns
unfolding bit_of
returns c = refl
