-- `table_free::free_slot` meets its contract: refused, found, or none; slots and records unpacked are at most 4,096.
use native.Mathlib.Omega.{arith}
use Rattle.table_free.proofs.Laws.{free_refused, free_found_lem, free_full, unpacked_fits, slot_fits}
use Rattle.table_free.proofs.free_slot.Goals as goal

pub returns-then-not-table_good : goal.returns-then-not-table_good
returns-then-not-table_good c = search free_refused

pub overflow_cast-result : goal.overflow_cast-result
overflow_cast-result c =
    omega (arith, slot_fits c.args.table.now _ c.table_good.ensures c.if-not-table_good.false _ c.find_free-search.ensures _ c.in-Some.is)

pub overflow_cast-result-in-Some : goal.overflow_cast-result-in-Some
overflow_cast-result-in-Some c =
    omega (arith, unpacked_fits c.args.table.now _ c.table_good.ensures c.if-not-table_good.false _ c.find_free-search.ensures)

pub overflow_cast-result-in-None : goal.overflow_cast-result-in-None
overflow_cast-result-in-None c =
    omega (arith, unpacked_fits c.args.table.now _ c.table_good.ensures c.if-not-table_good.false _ c.find_free-search.ensures)

pub returns-in-Some : goal.returns-in-Some
returns-in-Some c = search free_found_lem

pub returns-in-None : goal.returns-in-None
returns-in-None c = search free_full
