-- `table_fields::state_at` meets its contract: the state is the high two bits of the first byte.
use native.Mathlib.Omega.{arith}
use Rattle.numbers.specs.Bytes.{AreBytes}
use Rattle.table_fields.proofs.Laws.{first_byte}
use Rattle.table_fields.proofs.state_at.Goals as goal

pub returns : goal.returns
returns c =
    let known : AreBytes c.args.t.now = λ i. (c.shared_slice_known-1.given i).fits in
    omega (arith, first_byte c.args.t.now c.args.at known 13 c.requires)
