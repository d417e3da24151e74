-- `convert_compact::compact` meets its contract: each way out is an outcome of the definition.
use native.Mathlib.Omega.{arith}
use Rattle.std.proofs.lemmas.Result.{err_from_is_err_and}
use Rattle.convert_compact.proofs.Laws.{call_settings, call_refused, call_stays, call_put}
use Rattle.convert_compact.proofs.compact.Goals as goal

pub returns-then-not-settings_good : goal.returns-then-not-settings_good
returns-then-not-settings_good c = search call_settings

pub be6-requires : goal.be6-requires
be6-requires c = let a = c.in_ok-p.ensures.parts.label-in in omega arith

pub returns-then-stays_general : goal.returns-then-stays_general
returns-then-stays_general c =
    call_stays _ _ _ _ c.settings_good.ensures c.if-not-settings_good.false _ c.in_ok-p.ensures _ c.be6.ensures.0 _ c.stays_general.ensures c.if-stays_general.true

pub put_compact-requires : goal.put_compact-requires
put_compact-requires c = c.in_ok-p.ensures.parts

pub returns-in_err-p : goal.returns-in_err-p
returns-in_err-p c =
    let q = err_from_is_err_and c.from_residual.result c.from_residual.ensures.1 in
    rw (q.1, q.2) (call_refused _ _ _ _ c.settings_good.ensures c.if-not-settings_good.false _ c.in_err-p.ensures)

pub returns : goal.returns
returns c =
    call_put _ _ _ _ c.settings_good.ensures c.if-not-settings_good.false _ c.in_ok-p.ensures _ c.be6.ensures.0 _ c.stays_general.ensures c.if-stays_general.false _ _ c.put_compact.ensures
