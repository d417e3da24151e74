-- `report_rows::single_at` meets its contract: one tally of one learned record, and the next is of another nickname.
use native.Mathlib.Omega.{arith}
use lib.ListN.{get_or}
use Rattle.report_rows.proofs.Laws.{single_tests, single_row_lem}
use Rattle.report_rows.proofs.single_at.Goals as goal

pub returns : goal.returns
returns c =
    let a = c.args in
    let tests = single_tests (get_or a.v.now a.i 0) c.if-t.false in
    λ z. (tests.1, single_row_lem a.v.now a.i c.requires.1 (omega arith) tests.0 z)
