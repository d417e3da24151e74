-- `numbers::be2` meets its contract: the number of two bytes is the first times 256 and the second.
use native.Mathlib.Omega.{arith}
use Rattle.numbers.proofs.Bytes.{num_two}
use Rattle.numbers.proofs.be2.Goals as goal

pub returns : goal.returns
returns c =
    let at = c.args in
    omega (arith, num_two at.s.now at.k c.requires)
