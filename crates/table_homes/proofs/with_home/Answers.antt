-- `table_homes::with_home` meets its contract: the parts are made one by one.
use Rattle.numbers.specs.Tests.{pick}
use Rattle.numbers.proofs.Truth.{or_either}
use Rattle.table_homes.specs.Steps.{with_home}
use Rattle.table_homes.proofs.with_home.Goals as goal

pub returns : goal.returns
unfolding with_home pick
returns c = rw (or_either _ _, c.or_else-3.ensures, c.or_else-2.ensures, c.here-2.ensures, c.or_else.ensures, c.here.ensures)
