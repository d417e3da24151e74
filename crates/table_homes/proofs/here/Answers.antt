-- `table_homes::here` meets its contract.
use Rattle.numbers.specs.Tests.{pick}
use Rattle.table_homes.proofs.here.Goals as goal

pub returns-then-hit : goal.returns-then-hit
unfolding pick
returns-then-hit c = rw c.if-hit.true

pub returns : goal.returns
unfolding pick
returns c = rw c.if-hit.false
