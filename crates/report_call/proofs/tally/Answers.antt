-- `report_call::tally` meets its contract: what is gathered is sorted, or is sorted in its own place.
use mathlib.Core.Path.{sym}
use native.Mathlib.Omega.{arith}
use lib.Seq.{length-take-le}
use Rattle.table.specs.Slots.{most_slots}
use Rattle.report_call.proofs.Laws.{take_few, tally_done}
use Rattle.report_call.proofs.tally.Goals as goal

pub slice_bounds-order-end-then-g-ne0 : goal.slice_bounds-order-end-then-g-ne0
slice_bounds-order-end-then-g-ne0 c = sym (length-take-le _ _ (omega arith))

pub order-requires : goal.order-requires
order-requires c = take_few c.gather-g.result.all _ most_slots (omega arith) (omega arith)

pub returns-then-g-ne0 : goal.returns-then-g-ne0
returns-then-g-ne0 c =
    let gather = c.gather-g in
    let order = c.order in
    (gather.ensures.0.0, tally_done gather.result.all _ order.new.v _ (omega arith) order.auto.v order.ensures.0 order.ensures.1 gather.ensures.1)

pub returns-else-g-ne0 : goal.returns-else-g-ne0
returns-else-g-ne0 c =
    let gather = c.gather-g in
    (gather.ensures.0.0, (gather.ensures.0.1 c.if-g-ne0.false, gather.ensures.1))
