-- `report_digits::sign_of` meets its contract: a digit, or a letter.
use Rattle.report_digits.proofs.Laws.{sign_digit, sign_letter}
use Rattle.report_digits.proofs.sign_of.Goals as goal

pub returns-then-d-le9 : goal.returns-then-d-le9
returns-then-d-le9 c = sign_digit c.args.d c.if-d-le9.true

pub returns : goal.returns
returns c = sign_letter c.args.d c.if-d-le9.false
