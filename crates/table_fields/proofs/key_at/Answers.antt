-- `table_fields::key_at` meets its contract: its bits are byte 8.
use native.Mathlib.Omega.{arith}
use Rattle.numbers.specs.Bytes.{AreBytes}
use Rattle.table_fields.proofs.Laws.{byte_of}
use Rattle.table_fields.proofs.key_at.Goals as goal

pub returns : goal.returns
returns c =
    let known : AreBytes c.args.t.now = λ i. (c.shared_slice_known-1.given i).fits in
    omega (arith, byte_of c.args.t.now c.args.at known 8 5 c.requires)
