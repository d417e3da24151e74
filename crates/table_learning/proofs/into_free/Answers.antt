-- `table_learning::into_free` meets its contract: the lowest free slot is filled, or there is none.
use Rattle.table_learning.proofs.Laws.{free_filled, free_full, free_within}
use borrow.Author.Rules.{rules}
use Rattle.table_learning.proofs.into_free.Goals as goal

pub put-requires : goal.put-requires
put-requires c = (search free_within, search rules)

pub returns-in-Some : goal.returns-in-Some
returns-in-Some c = search free_filled

pub returns-in-None : goal.returns-in-None
returns-in-None c = search free_full
