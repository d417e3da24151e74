-- `table_fields::zero_after_front` meets its contract: the ten bytes after the front are 0 where the numbers of eight and of two are.
use Rattle.numbers.specs.Bytes.{AreBytes}
use Rattle.table_fields.proofs.Laws.{zero_rest}
use Rattle.table_fields.proofs.zero_after_front.Goals as goal

pub returns : goal.returns
returns c =
    let known : AreBytes c.args.t.now = λ i. (c.shared_slice_known-1.given i).fits in
    zero_rest c.args.t.now c.args.at known c.requires _ _ c.be8.ensures.0 c.be2.ensures.0
