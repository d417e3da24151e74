-- `numbers::be6` meets its contract: a part's number, from those of its parts.
use native.Mathlib.Omega.{arith}
use Rattle.numbers.proofs.Bytes.{num-add}
use Rattle.numbers.proofs.be6.Goals as goal

pub returns : goal.returns
returns c =
    let at = c.args in
    omega (arith, num-add at.s.now at.k 4 2 c.requires)
