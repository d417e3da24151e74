-- `flush_bits::add_if` meets its contract.
use native.Mathlib.Omega.{arith}
use Rattle.flush_bits.proofs.Adding.{mark_added}
use Rattle.flush_bits.proofs.add_if.Goals as goal

pub returns : goal.returns
returns c =
    mark_added c.args.s.now c.args.k (omega arith) _ _ c.bit_if.ensures _ c.add_byte.ensures
