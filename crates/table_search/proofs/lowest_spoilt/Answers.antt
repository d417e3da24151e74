-- `table_search::lowest_spoilt` meets its contract: refused, found, or none; a slot number is below 4,096.
use native.Mathlib.Omega.{arith}
use Rattle.table_search.proofs.Laws.{spoilt_refused, spoilt-found, spoilt_none, spoilt_fits}
use Rattle.table_search.proofs.lowest_spoilt.Goals as goal

pub returns-then-not-table_good : goal.returns-then-not-table_good
returns-then-not-table_good c = search spoilt_refused

pub returns-in_default : goal.returns-in_default
returns-in_default c = search spoilt_none

pub overflow_cast-result : goal.overflow_cast-result
overflow_cast-result c =
    let a = c.args in
    omega (arith, spoilt_fits a.table.now _ c.table_good.ensures c.if-not-table_good.false _ c.find_spoilt.ensures _ c.in-Some.is)

pub returns : goal.returns
returns c = search spoilt-found
