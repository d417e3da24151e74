-- What `report::claims` ensures is proved in the modules beside.
use Rattle.report.proofs.Sums.{report_adds_up, report_fits}
use Rattle.report.proofs.Lines.{report_rising}
use Rattle.report.proofs.Case.{report_case}
use Rattle.report.proofs.Digits.{digits_read_back}
use Rattle.report.proofs.claims.Goals as goal

pub returns : goal.returns
returns c = (report_adds_up, report_rising, report_case, digits_read_back, report_fits)
