-- `report_text::put_end` meets its contract: two lines, one after the other.
use native.Mathlib.Omega.{arith}
use Rattle.report_text.proofs.Laws.{end_pasted}
use Rattle.report_text.proofs.put_end.Goals as goal

pub returns : goal.returns
returns c =
    let a = c.args in
    let first = c.put_last-e in
    let second = c.put_last in
    (end_pasted a.out.now _ _ a.at a.free a.spoilt first.result (omega arith) first.ensures.0 first.ensures.1 second.ensures.0, omega arith)
