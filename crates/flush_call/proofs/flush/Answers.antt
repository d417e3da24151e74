-- `flush_call::flush` meets its contract: refused, corrupt, or cleared; the count is at most 4,096.
use native.Mathlib.Omega.{arith}
use Rattle.flush_call.proofs.Calls.{flush_refused, flush_corrupt, flush_cleared, count_fits, flush_slots}
use Rattle.std.proofs.lemmas.Result.{err_from_is_err_and}
use Rattle.flush_call.proofs.flush.Goals as goal

pub returns-then-not-table_good : goal.returns-then-not-table_good
returns-then-not-table_good c = search flush_refused

pub clear_meant-requires : goal.clear_meant-requires
clear_meant-requires c = search flush_slots

pub overflow_cast-result : goal.overflow_cast-result
overflow_cast-result c =
    let a = c.args in
    omega (arith, count_fits a.ingress a.payload.now a.table.now _ c.table_good.ensures c.if-not-table_good.false _ _ c.clear_meant.ensures _ (c.in_ok-n.was))

pub returns-in_err-n : goal.returns-in_err-n
returns-in_err-n c = let q = err_from_is_err_and c.from_residual.result c.from_residual.ensures.1 in rw (q.1, q.2) (flush_corrupt _ _ _ _ c.table_good.ensures c.if-not-table_good.false _ _ c.clear_meant.ensures _ c.in_err-n.was)

pub returns : goal.returns
returns c = search (flush_cleared, c.in_ok-n.was)
