-- `table_records::held_at` meets its contract: the state decides which of the two it is.
use Rattle.table_records.proofs.Laws.{held_good, held_learned, held-configured}
use borrow.Author.Rules.{rules}
use Rattle.table_records.proofs.held_at.Goals as goal

pub entry_of-requires : goal.entry_of-requires
entry_of-requires c = (search rules, search held_good)

pub returns-then-state_of-eq-LEARNED_STATE : goal.returns-then-state_of-eq-LEARNED_STATE
returns-then-state_of-eq-LEARNED_STATE c = search held_learned

pub entry_of-requires-2 : goal.entry_of-requires-2
entry_of-requires-2 c = (search rules, search held_good)

pub returns : goal.returns
returns c = search held-configured
