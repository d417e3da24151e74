-- `table_records::else_spoilt` meets its contract.
use Rattle.numbers.specs.Tests.{pick}
use Rattle.table_records.proofs.else_spoilt.Goals as goal

pub returns-then-good : goal.returns-then-good
unfolding pick
returns-then-good c = rw c.if-good.true

pub returns : goal.returns
unfolding pick
returns c = rw c.if-good.false
