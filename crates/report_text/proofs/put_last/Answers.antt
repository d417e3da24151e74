-- `report_text::put_last` meets its contract: three parts, one after the other.
use native.Mathlib.Omega.{arith}
use Rattle.report_text.proofs.Laws.{last_pasted}
use Rattle.report_text.proofs.put_last.Goals as goal

pub returns : goal.returns
returns c =
    let a = c.args in
    let count = c.put_decimal-e in
    (last_pasted a.out.now _ _ _ a.at a.k a.word a.n count.result (omega arith) c.put_number.ensures count.ensures.0 count.ensures.1 c.put.ensures, omega arith)
