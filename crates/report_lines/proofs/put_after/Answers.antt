-- `report_lines::put_after` meets its contract.
use native.Mathlib.Omega.{arith}
use Rattle.report_lines.proofs.Laws.{after_pasted}
use Rattle.report_lines.proofs.put_after.Goals as goal

pub returns : goal.returns
returns c =
    let a = c.args in
    (after_pasted a.out.now _ _ a.at a.b a.n (omega arith) c.put.ensures c.put_decimal.ensures.0, c.put_decimal.ensures.1)
