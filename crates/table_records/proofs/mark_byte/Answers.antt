-- `table_records::mark_byte` meets its contract.
use Rattle.numbers.specs.Tests.{pick}
use Rattle.table_records.proofs.mark_byte.Goals as goal

pub returns-then-mark : goal.returns-then-mark
unfolding pick
returns-then-mark c = rw c.if-mark.true

pub returns-else-mark : goal.returns-else-mark
unfolding pick
returns-else-mark c = rw c.if-mark.false
