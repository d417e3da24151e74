-- `hello_ends::number` meets its contract: return by return.
use Rattle.hello_ends.proofs.Numbers.{numbers_length, number_is}
use native.Mathlib.Omega.{arith}
use Rattle.hello_ends.proofs.number.Goals as goal

pub overflow_mul-i : goal.overflow_mul-i
overflow_mul-i c =
    let n = numbers_length c.args.area.now in
    omega arith

pub be8-requires : goal.be8-requires
be8-requires c =
    let n = numbers_length c.args.area.now in
    omega arith

pub returns : goal.returns
returns c = search number_is
