-- `report_text::write_refused` meets its contract: 16, or the line.
use mathlib.Core.Path.{ap, ◌∙◌}
use Rattle.frame_copy.specs.Areas.{pasted}
use Rattle.report.specs.Text.{refused_text}
use native.Mathlib.Omega.{arith}
use Rattle.report_text.proofs.Laws.{refused_is, refused_length, width_two, written_short, written_done}
use Rattle.report_text.proofs.write_refused.Goals as goal

pub returns-then-out : goal.returns-then-out
returns-then-out c =
    let a = c.args in
    written_short refused_text a.out.now 10 refused_length c.if-out.true

pub put_last-requires : goal.put_last-requires
put_last-requires c =
    let w = width_two in
    omega arith

pub returns : goal.returns
returns c =
    let a = c.args in
    written_done refused_text a.out.now 10 refused_length c.if-out.false _ (c.put_last.ensures.0 ∙ ap (pasted a.out.now 0) refused_is)
