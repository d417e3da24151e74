-- `port_map_pairs::twins` meets its contract: each branch by its test.
use borrow.Author.Tests.{eq-eqb, ne_eqb}
use Rattle.numbers.proofs.Steps.{either_passes, either-goes_on}
use Rattle.port_map_pairs.proofs.twins.Goals as goal

pub returns-then-t-p : goal.returns-then-t-p
returns-then-t-p c = search (either_passes, eq-eqb)

pub returns : goal.returns
returns c = search (either-goes_on, ne_eqb)
