-- `table_fields::head_at` meets its contract: the bytes after the first eight are less than one of theirs.
use native.Mathlib.Omega.{arith}
use Rattle.numbers.specs.Bytes.{AreBytes}
use Rattle.numbers.proofs.Bytes.{num_part_lt}
use Rattle.table.specs.Record.{record_bytes}
use Rattle.table_fields.proofs.Laws.{first_of}
use Rattle.table_fields.proofs.head_at.Goals as goal

pub returns : goal.returns
returns c =
    let known : AreBytes c.args.t.now = λ i. (c.shared_slice_known-1.given i).fits in
    (omega (arith, first_of c.args.t.now c.args.at known 8 6 c.requires), num_part_lt c.args.t.now c.args.at record_bytes known c.requires)
