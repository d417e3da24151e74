-- `watch_send::send_where` meets its contract: each way out is an outcome of the definition.
use native.Mathlib.Omega.{arith}
use borrow.Author.Rules.{rules}
use Rattle.std.proofs.lemmas.Result.{err_from_is_err_and}
use Rattle.convert_send.proofs.Laws.{parts_short, send_settings, send_short, send_refused}
use Rattle.watch_send.proofs.Laws.{stop_itself, stays_itself, going_put}
use Rattle.watch_send.proofs.send_where.Goals as goal

pub returns-then-not-settings_good : goal.returns-then-not-settings_good
returns-then-not-settings_good c = search send_settings

pub returns-then-work-lt-COMPACT_ROOM : goal.returns-then-work-lt-COMPACT_ROOM
returns-then-work-lt-COMPACT_ROOM c = search send_short

pub returns-then-not-on : goal.returns-then-not-on
returns-then-not-on c = stop_itself _ _ _ _ _ c.settings_good.ensures c.if-not-settings_good.false c.if-work-lt-COMPACT_ROOM.false _ c.in_ok-p.ensures c.if-not-on.true

pub be6-requires : goal.be6-requires
be6-requires c = let a = c.in_ok-p.ensures.parts.label-in in omega arith

pub returns-then-stays_general : goal.returns-then-stays_general
returns-then-stays_general c =
    stays_itself _ _ _ _ _ c.settings_good.ensures c.if-not-settings_good.false c.if-work-lt-COMPACT_ROOM.false _ c.in_ok-p.ensures c.if-not-on.false _ c.be6.ensures.0 _ c.stays_general.ensures c.if-stays_general.true

pub fill_compact-requires : goal.fill_compact-requires
fill_compact-requires c = let r = c.in_ok-p.ensures in (r.parts, parts_short c.args.s _ _ r, search rules)

pub returns-in_err-p : goal.returns-in_err-p
returns-in_err-p c =
    let q = err_from_is_err_and c.from_residual.result c.from_residual.ensures.1 in
    rw (q.1, q.2) (send_refused _ _ _ _ _ c.settings_good.ensures c.if-not-settings_good.false c.if-work-lt-COMPACT_ROOM.false _ c.in_err-p.ensures)

pub returns : goal.returns
returns c =
    going_put _ _ _ _ _ c.settings_good.ensures c.if-not-settings_good.false c.if-work-lt-COMPACT_ROOM.false _ c.in_ok-p.ensures c.if-not-on.false _ c.be6.ensures.0 _ c.stays_general.ensures c.if-stays_general.false _ _ c.fill_compact.ensures
