-- `report_keys::tail_at` meets its contract: seven bytes of the fields, and the one after them.
use mathlib.Core.Path.{◌∙◌}
use Rattle.numbers.specs.Bytes.{AreBytes}
use Rattle.report_keys.proofs.Laws.{tail_is, mark_small}
use Rattle.report_keys.proofs.tail_at.Goals as goal

pub returns : goal.returns
returns c =
    let known : AreBytes c.args.t.now = λ i. (c.shared_slice_known-1.given i).fits in
    (c.be8.ensures.0 ∙ tail_is c.args.t.now c.args.at known c.requires, mark_small c.args.t.now c.args.at known)
