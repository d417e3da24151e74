-- `table_fields::mac_low_at` meets its contract: its bits are the high three of byte 9.
use native.Mathlib.Omega.{arith}
use Rattle.numbers.specs.Bytes.{AreBytes}
use Rattle.table_fields.proofs.Laws.{byte_of}
use Rattle.table_fields.proofs.mac_low_at.Goals as goal

pub returns : goal.returns
returns c =
    let known : AreBytes c.args.t.now = λ i. (c.shared_slice_known-1.given i).fits in
    omega (arith, byte_of c.args.t.now c.args.at known 9 4 c.requires)
