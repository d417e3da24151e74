-- `table_homes::or_else` meets its contract.
use Rattle.table_homes.proofs.or_else.Goals as goal

pub returns-in-Some : goal.returns-in-Some
returns-in-Some c = rw c.in-Some.is
