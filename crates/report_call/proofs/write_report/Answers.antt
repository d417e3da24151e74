-- `report_call::write_report` meets its contract: the line of a bad length, or the report.
use mathlib.Core.Path.{sym, ◌∙◌}
use Rattle.report_call.proofs.Laws.{report_bad, report_good}
use borrow.Author.Rules.{rules}
use Rattle.report_call.proofs.write_report.Goals as goal

pub returns-then-not-table_good : goal.returns-then-not-table_good
returns-then-not-table_good c =
    let a = c.args in
    c.write_refused.ensures ∙ report_bad a.table.now a.out.now _ c.table_good.ensures c.if-not-table_good.true

pub write_table-requires : goal.write_table-requires
write_table-requires c = (sym c.table_good.ensures ∙ c.if-not-table_good.false, search rules)

pub returns : goal.returns
returns c =
    let a = c.args in
    c.write_table.ensures ∙ report_good a.table.now a.out.now _ c.table_good.ensures c.if-not-table_good.false
