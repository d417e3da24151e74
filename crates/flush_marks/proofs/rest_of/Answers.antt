-- `flush_marks::rest_of` meets its contract: the shift drops the marks before slot k.
use Rattle.numbers.specs.Bytes.{AreBytes}
use Rattle.flush_marks.proofs.Words.{rest_is}
use Rattle.flush_marks.proofs.rest_of.Goals as goal

pub returns : goal.returns
returns c =
    let known : AreBytes c.args.marks.now = λ i. (c.shared_slice_known-1.given i).fits in
    search rest_is
