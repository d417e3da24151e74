-- `numbers::be3` meets its contract: a part's number, from those of its parts.
use Prim.Native.Nat.{◌+◌}
use native.Mathlib.Omega.{arith}
use Rattle.numbers.proofs.Bytes.{num-add, num-one}
use Rattle.numbers.proofs.be3.Goals as goal

pub returns : goal.returns
returns c =
    let at = c.args in
    omega (arith, num-add at.s.now at.k 2 1 c.requires, num-one at.s.now (at.k + 2) (omega arith))
