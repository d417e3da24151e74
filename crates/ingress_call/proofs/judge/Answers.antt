-- `ingress_call::judge` meets its contract: what the frame is refused with, then each test in its order.
use Rattle.std.proofs.lemmas.Result.{err_from_is_err_and}
use Rattle.ingress_call.proofs.Laws.{verdict_native, source_room, verdict_source, verdict_hops, verdict_nicks, verdict_destination, verdict_good}
use Rattle.ingress_call.proofs.judge.Goals as goal

pub be6-requires : goal.be6-requires
be6-requires c = source_room c.args.u c.args.f.now _ c.in_ok-t.ensures

pub returns-then-not-is_individual : goal.returns-then-not-is_individual
returns-then-not-is_individual c = verdict_source c.args.u c.args.f.now _ c.in_ok-t.ensures _ c.be6.ensures.0 _ c.is_individual.ensures c.if-not-is_individual.true

pub returns-then-not-hops_good : goal.returns-then-not-hops_good
returns-then-not-hops_good c = verdict_hops c.args.u c.args.f.now _ c.in_ok-t.ensures _ c.be6.ensures.0 _ c.is_individual.ensures c.if-not-is_individual.false _ c.hops_good.ensures c.if-not-hops_good.true

pub returns-then-not-nicks_good : goal.returns-then-not-nicks_good
returns-then-not-nicks_good c = verdict_nicks c.args.u c.args.f.now _ c.in_ok-t.ensures _ c.be6.ensures.0 _ c.is_individual.ensures c.if-not-is_individual.false _ c.hops_good.ensures c.if-not-hops_good.false _ c.nicks_good.ensures c.if-not-nicks_good.true

pub returns-then-not-destination_agrees : goal.returns-then-not-destination_agrees
returns-then-not-destination_agrees c = verdict_destination c.args.u c.args.f.now _ c.in_ok-t.ensures _ c.be6.ensures.0 _ c.is_individual.ensures c.if-not-is_individual.false _ c.hops_good.ensures c.if-not-hops_good.false _ c.nicks_good.ensures c.if-not-nicks_good.false _ c.destination_agrees.ensures c.if-not-destination_agrees.true

pub returns-in_err-t : goal.returns-in_err-t
returns-in_err-t c =
    let q = err_from_is_err_and c.from_residual.result c.from_residual.ensures.1 in
    rw (q.1, q.2) (verdict_native c.args.u c.args.f.now _ c.in_err-t.ensures)

pub returns : goal.returns
returns c = verdict_good c.args.u c.args.f.now _ c.in_ok-t.ensures _ c.be6.ensures.0 _ c.is_individual.ensures c.if-not-is_individual.false _ c.hops_good.ensures c.if-not-hops_good.false _ c.nicks_good.ensures c.if-not-nicks_good.false _ c.destination_agrees.ensures c.if-not-destination_agrees.false
