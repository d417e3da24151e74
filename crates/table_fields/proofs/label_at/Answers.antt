-- `table_fields::label_at` meets its contract: the label lies in the first four bytes.
use native.Mathlib.Omega.{arith}
use Rattle.numbers.specs.Bytes.{AreBytes}
use Rattle.table_fields.proofs.Laws.{first_of}
use Rattle.table_fields.proofs.label_at.Goals as goal

pub returns : goal.returns
returns c =
    let known : AreBytes c.args.t.now = λ i. (c.shared_slice_known-1.given i).fits in
    omega (arith, first_of c.args.t.now c.args.at known 4 10 c.requires)
