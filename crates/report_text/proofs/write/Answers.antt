-- `report_text::write` meets its contract: 16, or the lines and the two after them.
use mathlib.Core.Path.{refl}
use native.Mathlib.Omega.{arith}
use lib.ListN.{length}
use Rattle.report_text.specs.Whole.{whole_text}
use Rattle.report_text.proofs.Laws.{length_whole, whole_pasted, written_short, written_done}
use Rattle.report_text.proofs.write.Goals as goal

pub returns-then-is_short : goal.returns-then-is_short
returns-then-is_short c =
    let a = c.args in
    written_short (whole_text a.v.now a.free a.spoilt) a.out.now (length (whole_text a.v.now a.free a.spoilt)) refl (c.is_short.ensures.0 c.if-is_short.true)

pub put_lines-at-requires : goal.put_lines-at-requires
put_lines-at-requires c =
    let whole = length_whole c.args.v.now c.args.free c.args.spoilt in
    let room = c.is_short.ensures.1 c.if-is_short.false in
    (c.requires.0, omega arith)

pub put_end-e-requires : goal.put_end-e-requires
put_end-e-requires c =
    let whole = length_whole c.args.v.now c.args.free c.args.spoilt in
    let room = c.is_short.ensures.1 c.if-is_short.false in
    let lines = c.put_lines-at.ensures.1 in
    omega arith

pub overflow_cast-result : goal.overflow_cast-result
overflow_cast-result c =
    let whole = length_whole c.args.v.now c.args.free c.args.spoilt in
    let lines = c.put_lines-at.ensures.1 in
    let end = c.put_end-e.ensures.1 in
    omega arith

pub returns : goal.returns
returns c =
    let a = c.args in
    let whole = length_whole a.v.now a.free a.spoilt in
    let room = c.is_short.ensures.1 c.if-is_short.false in
    let lines = c.put_lines-at in
    let end = c.put_end-e in
    let at = lines.ensures.1 in
    let e = end.ensures.1 in
    written_done (whole_text a.v.now a.free a.spoilt) a.out.now end.result (omega arith) (omega arith) _ (whole_pasted a.out.now _ _ a.v.now a.free a.spoilt lines.result lines.ensures.0 lines.ensures.1 end.ensures.0)
