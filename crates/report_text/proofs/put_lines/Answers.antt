-- `report_text::put_lines` meets its contract. The invariant: the lines that are done are written.
use mathlib.Core.Path.{refl}
use native.Mathlib.Omega.{arith}
use Rattle.report_text.proofs.Laws.{long_end, long_past, room_next, single_named, single_named_lem, put_none, put_past, put_next, put_done}
use borrow.Author.Rules.{rules}
use Rattle.report_text.proofs.put_lines.Goals as goal

pub loop-i-init : goal.loop-i-init
loop-i-init c =
    let a = c.args in
    (search rules, (refl, put_none a.out.now a.v.now))

pub single_at-requires : goal.single_at-requires
single_at-requires c = (omega arith, c.requires.0.0)

pub put_single-at-requires : goal.put_single-at-requires
put_single-at-requires c =
    let at = c.loop-i in
    let x = c.nickname_of in
    let row = single_named_lem c.args.v.now at.i x.result x.ensures.0 (c.single_at.ensures c.if-single_at.true) in
    let room = room_next c.args.v.now c.requires.0.0 at.at at.i at.invariant.1.1.0 (omega arith) (single_named x.result at.i) row.1 row.0 in
    let enough = c.requires.1 in
    omega arith

pub loop-i-preserved-then-single_at : goal.loop-i-preserved-then-single_at
loop-i-preserved-then-single_at c =
    let at = c.loop-i in
    let x = c.nickname_of in
    let row = single_named_lem c.args.v.now at.i x.result x.ensures.0 (c.single_at.ensures c.if-single_at.true) in
    let put = c.put_single-at in
    (omega arith, (search rules, put_next c.args.v.now c.requires.0.0 at.at at.i at.invariant.1.1.0 (omega arith) (single_named x.result at.i) row.1 c.args.out.now at.out at.invariant.1.1.1 row.0 put.result put.ensures.1 _ put.ensures.0))

pub row_at-r-requires : goal.row_at-r-requires
row_at-r-requires c =
    (omega arith, (c.requires.0.0, c.requires.0.1))

pub returns-then-r-ge-NICKNAME_END : goal.returns-then-r-ge-NICKNAME_END
returns-then-r-ge-NICKNAME_END c =
    let at = c.loop-i in
    let row = c.row_at-r in (
      put_past c.args.v.now c.requires.0.0 at.at at.i at.invariant.1.1.0 (omega arith) row.result row.ensures c.args.out.now at.out at.invariant.1.1.1 c.if-r-ge-NICKNAME_END.true,
      long_past c.args.v.now c.requires.0.0 at.at at.i at.invariant.1.1.0 (omega arith) row.result row.ensures c.if-r-ge-NICKNAME_END.true,
    )

pub put_line-at-requires : goal.put_line-at-requires
put_line-at-requires c =
    let at = c.loop-i in
    let row = c.row_at-r in
    let room = room_next c.args.v.now c.requires.0.0 at.at at.i at.invariant.1.1.0 (omega arith) row.result row.ensures c.if-r-ge-NICKNAME_END.false in
    let enough = c.requires.1 in
    omega arith

pub loop-i-smaller : goal.loop-i-smaller
loop-i-smaller c =
    let further = c.row_at-r.ensures.further in
    let within = c.row_at-r.ensures.within in
    omega arith

pub loop-i-preserved : goal.loop-i-preserved
loop-i-preserved c =
    let at = c.loop-i in
    let row = c.row_at-r in
    let put = c.put_line-at in
    (row.ensures.within, (search rules, put_next c.args.v.now c.requires.0.0 at.at at.i at.invariant.1.1.0 (omega arith) row.result row.ensures c.args.out.now at.out at.invariant.1.1.1 c.if-r-ge-NICKNAME_END.false put.result put.ensures.1 _ put.ensures.0))

pub returns : goal.returns
returns c =
    let at = c.loop-i in (
      put_done c.args.v.now c.requires.0.0 at.at at.i at.invariant.1.1.0 c.args.out.now at.out at.invariant.1.1.1 (omega arith),
      long_end c.args.v.now c.requires.0.0 at.at at.i at.invariant.1.1.0 (omega arith),
    )
