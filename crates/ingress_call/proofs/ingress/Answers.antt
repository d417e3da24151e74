-- `ingress_call::ingress` meets its contract: 1, 1, 21, what the verdict refuses, 22, or what is written.
use Rattle.std.proofs.lemmas.Result.{err_from_is_err_and}
use Rattle.ingress_call.proofs.Laws.{settings_out, given_out, map_out, judge_out, missing_out, put_out}
use Rattle.ingress_call.proofs.ingress.Goals as goal

pub returns-then-not-settings_good : goal.returns-then-not-settings_good
returns-then-not-settings_good c = settings_out c.args.s c.args.map.now c.args.u c.args.f.now c.args.out.now _ c.settings_good.ensures c.if-not-settings_good.true

pub returns-then-not-given_good : goal.returns-then-not-given_good
returns-then-not-given_good c = given_out c.args.s c.args.map.now c.args.u c.args.f.now c.args.out.now _ c.settings_good.ensures c.if-not-settings_good.false _ c.given_good.ensures c.if-not-given_good.true

pub returns-then-not-map_good : goal.returns-then-not-map_good
returns-then-not-map_good c = map_out c.args.s c.args.map.now c.args.u c.args.f.now c.args.out.now _ c.settings_good.ensures c.if-not-settings_good.false _ c.given_good.ensures c.if-not-given_good.false _ c.map_good.ensures c.if-not-map_good.true

pub put_general-requires : goal.put_general-requires
put_general-requires c = c.in_ok-t.ensures.fits

pub returns-in_err-t : goal.returns-in_err-t
returns-in_err-t c =
    let q = err_from_is_err_and c.from_residual.result c.from_residual.ensures.1 in
    rw (q.1, q.2) (judge_out c.args.s c.args.map.now c.args.u c.args.f.now c.args.out.now _ c.settings_good.ensures c.if-not-settings_good.false _ c.given_good.ensures c.if-not-given_good.false _ c.map_good.ensures c.if-not-map_good.false _ c.in_err-t.ensures)

pub returns-in-None : goal.returns-in-None
returns-in-None c = missing_out c.args.s c.args.map.now c.args.u c.args.f.now c.args.out.now _ c.settings_good.ensures c.if-not-settings_good.false _ c.given_good.ensures c.if-not-given_good.false _ c.map_good.ensures c.if-not-map_good.false _ c.in_ok-t.ensures _ c.label_for.ensures c.in-None.is

pub returns-in-Some : goal.returns-in-Some
returns-in-Some c = put_out c.args.s c.args.map.now c.args.u c.args.f.now c.args.out.now _ c.settings_good.ensures c.if-not-settings_good.false _ c.given_good.ensures c.if-not-given_good.false _ c.map_good.ensures c.if-not-map_good.false _ c.in_ok-t.ensures _ c.label_for.ensures _ c.in-Some.is _ c.put_general.ensures
