-- `convert_send::send_where` meets its contract: each way out is an outcome of the definition.
use native.Mathlib.Omega.{arith}
use borrow.Author.Rules.{rules}
use Rattle.convert_send.proofs.Laws.{parts_short, send_settings, send_short, send_refused, send_itself, send_put}
use Rattle.convert_send.proofs.send_where.Goals as goal

pub returns-then-not-settings_good : goal.returns-then-not-settings_good
returns-then-not-settings_good c = search send_settings

pub returns-then-work-lt-COMPACT_ROOM : goal.returns-then-work-lt-COMPACT_ROOM
returns-then-work-lt-COMPACT_ROOM c = search send_short

pub be6-requires : goal.be6-requires
be6-requires c = let a = c.in-Ok.ensures.parts.label-in in omega arith

pub returns-then-not-may_compact : goal.returns-then-not-may_compact
returns-then-not-may_compact c =
    send_itself _ _ _ _ _ c.settings_good.ensures c.if-not-settings_good.false c.if-work-lt-COMPACT_ROOM.false _ c.in-Ok.ensures _ c.be6.ensures.0 _ c.may_compact.ensures c.if-not-may_compact.true

pub fill_compact-requires : goal.fill_compact-requires
fill_compact-requires c = let r = c.in-Ok.ensures in (r.parts, parts_short c.args.s _ _ r, search rules)

pub returns-in-Err : goal.returns-in-Err
returns-in-Err c =
    send_refused _ _ _ _ _ c.settings_good.ensures c.if-not-settings_good.false c.if-work-lt-COMPACT_ROOM.false _ c.in-Err.ensures

pub returns : goal.returns
returns c =
    send_put _ _ _ _ _ c.settings_good.ensures c.if-not-settings_good.false c.if-work-lt-COMPACT_ROOM.false _ c.in-Ok.ensures _ c.be6.ensures.0 _ c.may_compact.ensures c.if-not-may_compact.false _ _ c.fill_compact.ensures
