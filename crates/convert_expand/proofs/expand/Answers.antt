-- `convert_expand::expand` meets its contract: each way out is an outcome of the definition.
use Rattle.std.proofs.lemmas.Result.{err_from_is_err_and}
use Rattle.convert_expand.proofs.Laws.{call_refused, call_put, result_short, parts_all}
use Rattle.convert_expand.proofs.expand.Goals as goal

pub destination-requires : goal.destination-requires
destination-requires c = c.in_ok-p.ensures.parts

pub put_general-requires : goal.put_general-requires
put_general-requires c =
    let r = c.in_ok-p.ensures in
    (r.parts, (parts_all _ _ _ c.args.out.now _ r, result_short _ _ _ c.args.out.now _ r))

pub returns-in_err-p : goal.returns-in_err-p
returns-in_err-p c =
    let q = err_from_is_err_and c.from_residual.result c.from_residual.ensures.1 in
    rw (q.1, q.2) (call_refused _ _ _ _ _ c.in_err-p.ensures)

pub returns : goal.returns
returns c = call_put _ _ _ _ _ c.in_ok-p.ensures _ c.destination.ensures _ _ c.put_general.ensures
