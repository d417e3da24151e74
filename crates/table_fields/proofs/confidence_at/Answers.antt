-- `table_fields::confidence_at` meets its contract: the confidence lies in the bytes 11 to 13.
use native.Mathlib.Omega.{arith}
use Rattle.numbers.specs.Bytes.{AreBytes}
use Rattle.table_fields.proofs.Laws.{part_of}
use Rattle.table_fields.proofs.confidence_at.Goals as goal

pub returns : goal.returns
returns c =
    let known : AreBytes c.args.t.now = λ i. (c.shared_slice_known-1.given i).fits in
    omega (arith, part_of c.args.t.now c.args.at known 11 3 0 c.requires)
