-- `flush_bits::high_if` meets its contract.
use mathlib.Core.Path.{refl}
use Rattle.numbers.proofs.Steps.{pick_first, pick_second}
use Rattle.flush_bits.proofs.high_if.Goals as goal

pub returns-then-b : goal.returns-then-b
returns-then-b c = pick_first _ _ _ _ c.if-b.true refl

pub returns-else-b : goal.returns-else-b
returns-else-b c = pick_second _ _ _ _ c.if-b.false refl
