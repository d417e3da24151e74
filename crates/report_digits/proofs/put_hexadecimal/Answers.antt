-- `report_digits::put_hexadecimal` meets its contract.
use Rattle.report.specs.Text.{hexadecimal}
use Rattle.report_digits.proofs.put_hexadecimal.Goals as goal

pub returns : goal.returns
unfolding hexadecimal
returns c = c.put_digits.ensures
