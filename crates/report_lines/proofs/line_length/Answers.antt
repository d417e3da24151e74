-- `report_lines::line_length` meets its contract.
use mathlib.Core.Path.{sym, ap}
use native.Mathlib.Omega.{arith}
use lib.ListN.{length}
use Rattle.report.proofs.Digits.{length_line}
use Rattle.report_lines.proofs.Laws.{line_none, line_some}
use Rattle.report_lines.proofs.line_length.Goals as goal

pub returns-then-l-c : goal.returns-then-l-c
returns-then-l-c c =
    let a = c.args in
    (λ x. sym (ap length (line_none a.l a.c c.if-l-c.true x)), omega arith)

pub returns : goal.returns
returns c =
    let a = c.args in
    let first = c.width_of.ensures in
    let second = c.width_of-2.ensures in
    (λ x. let n = length_line x a.l a.c in let e = ap length (line_some a.l a.c c.if-l-c.false x) in omega arith, omega arith)
