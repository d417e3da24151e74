-- `flush_bits::mask` meets its contract: a shift is a division.
use mathlib.Core.Path.{refl}
use native.Mathlib.Omega.{arith}
use Rattle.flush_bits.specs.Ranged.{mask_of}
use Rattle.flush_bits.proofs.Laws.{mask_sub, mask_byte}
use Rattle.flush_bits.proofs.mask.Goals as goal

pub overflow_sub-result : goal.overflow_sub-result
overflow_sub-result c = search mask_sub

pub overflow_cast-result : goal.overflow_cast-result
overflow_cast-result c = let h = mask_byte c.args.i c.args.j c.requires.1.0 c.requires.1.1 c.requires.0 in omega arith

pub returns : goal.returns
unfolding mask_of
returns c = refl
