-- `flush_bits::bit_if` meets its contract: a shift is a division.
use Rattle.flush_bits.proofs.Adding.{bit_size}
use Rattle.flush_bits.proofs.bit_if.Goals as goal

pub overflow_cast-result : goal.overflow_cast-result
overflow_cast-result c = search bit_size

pub returns : goal.returns
returns c = rw c.high_if.ensures
