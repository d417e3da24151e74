-- `shinglebar::shinglebar_report` meets its contract: the word of the answer, and the area that the call left.
use mathlib.Core.Path.{ap}
use Rattle.numbers.specs.After.{area_as}
use Rattle.report.specs.Report.{report_word}
use Rattle.shinglebar.proofs.shinglebar_report.Goals as goal

pub returns : goal.returns
returns c = rw c.written_word.ensures.report (ap (area_as report_word) c.write_report.ensures)
