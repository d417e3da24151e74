-- `table_fields::nickname_middle_at` meets its contract: its bits are byte 10.
use native.Mathlib.Omega.{arith}
use Rattle.numbers.specs.Bytes.{AreBytes}
use Rattle.table_fields.proofs.Laws.{byte_of}
use Rattle.table_fields.proofs.nickname_middle_at.Goals as goal

pub returns : goal.returns
returns c =
    let known : AreBytes c.args.t.now = λ i. (c.shared_slice_known-1.given i).fits in
    omega (arith, byte_of c.args.t.now c.args.at known 10 3 c.requires)
