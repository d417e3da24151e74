-- `portions_call::portion` meets its contract: refused, corrupt, or cleared; all three numbers are at most 4,096.
use native.Mathlib.Omega.{arith}
use Rattle.portions_call.proofs.Laws.{portion_table, portion_refused, portion_below, portion_within, portion_corrupt, portion_done, count_fits, examined_fits}
use Rattle.std.proofs.lemmas.Result.{err_from_is_err_and}
use Rattle.portions_call.proofs.portion.Goals as goal

pub returns-then-not-table_good : goal.returns-then-not-table_good
returns-then-not-table_good c = portion_table _ _ _ _ _ _ c.table_good.ensures c.if-not-table_good.true

pub returns-then-k-n : goal.returns-then-k-n
returns-then-k-n c = portion_refused _ _ _ _ _ _ c.table_good.ensures c.if-not-table_good.false c.if-k-n.true

pub steps-m-requires : goal.steps-m-requires
steps-m-requires c =
    let a = c.args in
    portion_below a.ingress a.payload.now a.slot a.k a.table.now _ c.table_good.ensures c.if-not-table_good.false c.if-k-n.false

pub clear_portion-requires : goal.clear_portion-requires
clear_portion-requires c =
    let a = c.args in
    portion_within a.ingress a.payload.now _ _ _ _ c.table_good.ensures c.if-not-table_good.false c.if-k-n.false _ c.steps-m.ensures

pub overflow_cast-result : goal.overflow_cast-result
overflow_cast-result c =
    let a = c.args in
    omega (arith, count_fits a.ingress a.payload.now a.slot a.k a.table.now _ c.table_good.ensures c.if-not-table_good.false c.if-k-n.false _ c.steps-m.ensures _ _ c.clear_portion.ensures _ (c.in_ok-s.was))

pub overflow_add-result : goal.overflow_add-result
overflow_add-result c =
    let a = c.args in
    omega (arith, examined_fits a.ingress a.payload.now a.slot a.k a.table.now _ c.table_good.ensures c.if-not-table_good.false c.if-k-n.false _ c.steps-m.ensures _ _ c.clear_portion.ensures _ (c.in_ok-s.was))

pub overflow_cast-result-2 : goal.overflow_cast-result-2
overflow_cast-result-2 c =
    let a = c.args in
    omega (arith, examined_fits a.ingress a.payload.now a.slot a.k a.table.now _ c.table_good.ensures c.if-not-table_good.false c.if-k-n.false _ c.steps-m.ensures _ _ c.clear_portion.ensures _ (c.in_ok-s.was))

pub overflow_cast-result-3 : goal.overflow_cast-result-3
overflow_cast-result-3 c =
    let a = c.args in
    omega (arith, examined_fits a.ingress a.payload.now a.slot a.k a.table.now _ c.table_good.ensures c.if-not-table_good.false c.if-k-n.false _ c.steps-m.ensures _ _ c.clear_portion.ensures _ (c.in_ok-s.was))

pub returns-in_err-s : goal.returns-in_err-s
returns-in_err-s c = let q = err_from_is_err_and c.from_residual.result c.from_residual.ensures.1 in rw (q.1, q.2) (portion_corrupt _ _ _ _ _ _ c.table_good.ensures c.if-not-table_good.false c.if-k-n.false _ c.steps-m.ensures _ _ c.clear_portion.ensures _ (c.in_err-s.was))

pub returns : goal.returns
returns c = portion_done _ _ _ _ _ _ c.table_good.ensures c.if-not-table_good.false c.if-k-n.false _ c.steps-m.ensures _ _ c.clear_portion.ensures _ (c.in_ok-s.was)
