-- `table_fields::round_key_at` meets its contract: its bits are the bytes 8 and 7.
use Rattle.numbers.specs.Bytes.{AreBytes}
use Rattle.table_fields.proofs.Laws.{round_key_bytes}
use Rattle.table_fields.proofs.round_key_at.Goals as goal

pub returns : goal.returns
returns c =
    let known : AreBytes c.args.t.now = λ i. (c.shared_slice_known-1.given i).fits in
    rw (c.wide.ensures.0, c.wide-2.ensures.0) (round_key_bytes c.args.t.now c.args.at known c.requires)
