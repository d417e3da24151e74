-- `flush_call::mark_meant` meets its contract: the filters in a row, or no mark after the first pass.
use Rattle.flush_call.proofs.Tests.{filters_in_row, none_left}
use Rattle.flush_call.proofs.mark_meant.Goals as goal

pub returns-then-not-any_marked : goal.returns-then-not-any_marked
returns-then-not-any_marked c =
    (c.mark-examined.ensures.0, none_left _ _ c.args.f c.requires.1.1 _ _ _ _ _ c.requires.0.within _ c.mark-examined.ensures.1 _ c.any_marked.ensures c.if-not-any_marked.true)

pub returns : goal.returns
returns c =
    (c.mark-examined.ensures.0, filters_in_row _ _ c.args.f c.requires.1.1 _ _ _ _ _ c.requires.0.within _ c.mark-examined.ensures.1 _ c.keep_labels.ensures _ c.keep_macs.ensures)
