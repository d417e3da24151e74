-- `table_records::bits_at` meets its contract: the record's number is that of its first eight bytes, and then that of its last six.
use native.Mathlib.Omega.{arith}
use Rattle.numbers.proofs.Bytes.{num-add}
use Rattle.table_records.proofs.bits_at.Goals as goal

pub returns : goal.returns
returns c =
    omega (arith, num-add c.args.t.now c.args.at 8 6 c.requires)
