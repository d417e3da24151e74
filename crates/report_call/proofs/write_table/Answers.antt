-- `report_call::write_table` meets its contract: the tallies of the slots, and the report of these.
use mathlib.Core.Path.{sym}
use native.Mathlib.Omega.{arith}
use lib.Seq.{length-take-le}
use Rattle.table.specs.Slots.{most_slots}
use Rattle.table.proofs.Slots.{good_slots}
use Rattle.report_call.proofs.Laws.{take_few, table_few, table_written}
use Rattle.report_call.proofs.write_table.Goals as goal

pub tally-n-requires : goal.tally-n-requires
tally-n-requires c =
    (good_slots c.args.table.now c.requires.0, c.requires.1)

pub slice_bounds-write_tallies-end : goal.slice_bounds-write_tallies-end
slice_bounds-write_tallies-end c =
    let few = good_slots c.args.table.now c.requires.0 in
    omega arith

pub slice_bounds-write_tallies-end-2 : goal.slice_bounds-write_tallies-end-2
slice_bounds-write_tallies-end-2 c =
    let few = good_slots c.args.table.now c.requires.0 in
    sym (length-take-le _ _ (omega arith))

pub write_tallies-requires : goal.write_tallies-requires
write_tallies-requires c =
    let few = good_slots c.args.table.now c.requires.0 in
    let tally = c.tally-n in
    ((tally.ensures.1.0, take_few tally.result _ most_slots (omega arith) (omega arith)), table_few c.args.table.now _ tally.ensures.1.1 few)

pub returns : goal.returns
returns c =
    table_written c.args.table.now _ c.args.out.now _ c.tally-n.ensures.1.1 c.write_tallies.ensures
