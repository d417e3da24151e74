-- `report_text::lines_length` meets its contract. The invariant: n is the length of the lines that are done.
use native.Mathlib.Omega.{arith}
use Rattle.report_text.proofs.Laws.{long_none, long_end, long_past, room_next, long_next}
use borrow.Author.Rules.{rules}
use Rattle.report_text.proofs.lines_length.Goals as goal

pub loop-i-init : goal.loop-i-init
loop-i-init c = (search rules, long_none c.args.v.now)

pub row_at-r-requires : goal.row_at-r-requires
row_at-r-requires c =
    (omega arith, (c.requires.0.0, c.requires.0.1))

pub returns-then-r-ge-NICKNAME_END : goal.returns-then-r-ge-NICKNAME_END
returns-then-r-ge-NICKNAME_END c =
    let at = c.loop-i in
    let row = c.row_at-r in
    long_past c.args.v.now c.requires.0.0 at.n at.i at.invariant.1 (omega arith) row.result row.ensures c.if-r-ge-NICKNAME_END.true

pub overflow_add-n : goal.overflow_add-n
overflow_add-n c =
    let at = c.loop-i in
    let row = c.row_at-r in
    let w = c.line_length-n.ensures.0 row.result.nickname in
    let room = room_next c.args.v.now c.requires.0.0 at.n at.i at.invariant.1 (omega arith) row.result row.ensures c.if-r-ge-NICKNAME_END.false in
    omega arith

pub loop-i-smaller : goal.loop-i-smaller
loop-i-smaller c =
    let further = c.row_at-r.ensures.further in
    let within = c.row_at-r.ensures.within in
    omega arith

pub loop-i-preserved : goal.loop-i-preserved
loop-i-preserved c =
    let at = c.loop-i in
    let row = c.row_at-r in
    let w = c.line_length-n.ensures.0 row.result.nickname in
    (row.ensures.within, long_next c.args.v.now c.requires.0.0 at.n at.i at.invariant.1 (omega arith) row.result row.ensures c.if-r-ge-NICKNAME_END.false _ (omega arith))

pub returns : goal.returns
returns c =
    let at = c.loop-i in
    long_end c.args.v.now c.requires.0.0 at.n at.i at.invariant.1 (omega arith)
