-- `table_learning::rival` meets its contract.
use mathlib.Core.Path.{◌∙◌}
use Rattle.numbers.specs.Tests.{pick}
use Rattle.table_learning.proofs.rival.Goals as goal

pub returns-then-mark : goal.returns-then-mark
unfolding pick
returns-then-mark c = c.or_else.ensures ∙ rw c.if-mark.true

pub returns : goal.returns
unfolding pick
returns c = rw c.if-mark.false
