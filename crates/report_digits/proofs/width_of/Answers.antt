-- `report_digits::width_of` meets its contract, way by way.
use mathlib.Core.Path.{sym}
use Rattle.report_digits.proofs.Laws.{width_1, width_2, width_3, width_4}
use borrow.Author.Rules.{rules}
use Rattle.report_digits.proofs.width_of.Goals as goal

pub returns-then-n-le9 : goal.returns-then-n-le9
returns-then-n-le9 c = (sym (width_1 _ c.if-n-le9.true), (search rules, search rules))

pub returns-then-n-le99 : goal.returns-then-n-le99
returns-then-n-le99 c = (sym (width_2 _ c.if-n-le9.false c.if-n-le99.true), (search rules, search rules))

pub returns-then-n-le999 : goal.returns-then-n-le999
returns-then-n-le999 c = (sym (width_3 _ c.if-n-le9.false c.if-n-le99.false c.if-n-le999.true), (search rules, search rules))

pub returns : goal.returns
returns c = (sym (width_4 _ c.if-n-le9.false c.if-n-le99.false c.if-n-le999.false), (search rules, search rules))
