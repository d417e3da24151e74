-- `table_fields::nickname_at` meets its contract: the nickname lies in the bytes 9 to 11.
use native.Mathlib.Omega.{arith}
use Rattle.numbers.specs.Bytes.{AreBytes}
use Rattle.table_fields.proofs.Laws.{part_of}
use Rattle.table_fields.proofs.nickname_at.Goals as goal

pub returns : goal.returns
returns c =
    let known : AreBytes c.args.t.now = λ i. (c.shared_slice_known-1.given i).fits in
    omega (arith, part_of c.args.t.now c.args.at known 9 3 2 c.requires)
