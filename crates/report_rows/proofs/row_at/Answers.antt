-- `report_rows::row_at` meets its contract. The invariant: l and c are what the tallies before place j count.
use mathlib.Core.Path.{◌≡◌}
use native.Mathlib.Omega.{arith}
use lib.ListN.{length}
use Rattle.report_rows.proofs.Laws.{row_start, row_next, row_ends, row_last}
use Rattle.report_rows.proofs.row_at.Goals as goal

pub loop-j-init : goal.loop-j-init
loop-j-init c =
    let l = c.count_of-l in
    row_start c.args.v.now c.args.i c.requires.1.0 c.nickname_of-x.result c.nickname_of-x.ensures.0 c.requires.0 l.result c.count_of-c.result l.ensures.0 l.ensures.1 c.count_of-c.ensures.0 c.count_of-c.ensures.1

pub returns-then-nickname_of-x : goal.returns-then-nickname_of-x
returns-then-nickname_of-x c =
    let at = c.loop-j in
    let x = c.nickname_of-x in
    row_ends c.args.v.now c.args.i c.requires.1.0 x.result x.ensures.0 at.l at.c at.j at.invariant (omega arith) c.nickname_of.result c.nickname_of.ensures.0 c.if-nickname_of-x.true

pub overflow_add-l : goal.overflow_add-l
overflow_add-l c =
    let few = c.loop-j.invariant.few in
    omega arith

pub overflow_add-c : goal.overflow_add-c
overflow_add-c c =
    let few = c.loop-j.invariant.few in
    omega arith

pub loop-j-preserved : goal.loop-j-preserved
loop-j-preserved c =
    let at = c.loop-j in
    let x = c.nickname_of-x in
    let y = c.nickname_of in
    let l = c.count_of-l-in-loop-j in
    row_next c.args.v.now c.args.i c.requires.1.0 x.result x.ensures.0 at.l at.c at.j at.invariant (omega arith) y.result y.ensures.0 c.if-nickname_of-x.false l.result c.count_of-c-in-loop-j.result l.ensures.0 l.ensures.1 c.count_of-c-in-loop-j.ensures.0 c.count_of-c-in-loop-j.ensures.1

pub returns : goal.returns
returns c =
    let at = c.loop-j in
    let x = c.nickname_of-x in
    let end : at.j ≡ length c.args.v.now = omega arith in
    rw end at (row_last c.args.v.now c.args.i c.requires.1.0 x.result x.ensures.0 at.l at.c at.j at.invariant (omega arith))
