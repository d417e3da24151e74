-- `hello_put::open` meets its contract: each way out is a case of the definition; the room is that of the cursor after it.
use Rattle.hello_put.proofs.Laws.{step_taken, step_new, step_small, step_fits, taken-within, grown_room, opened_grown, opened_room, head_fits, after_fits, opened_new}
use borrow.Author.Rules.{rules}
use Rattle.hello_put.proofs.open.Goals as goal

pub takes_it-requires : goal.takes_it-requires
takes_it-requires c = (search rules, (search step_small, search rules))

pub grow_tlv-requires : goal.grow_tlv-requires
grow_tlv-requires c = ((search rules, search rules), (search taken-within, search grown_room))

pub overflow_add-result : goal.overflow_add-result
overflow_add-result c = search (step_fits, rules)

pub returns-then-takes_it : goal.returns-then-takes_it
returns-then-takes_it c = ((search step_taken, search rules), search opened_grown)

pub open_tlv-requires : goal.open_tlv-requires
open_tlv-requires c = (search opened_room, (search rules, search rules))

pub overflow_add-at-2 : goal.overflow_add-at-2
overflow_add-at-2 c = search (head_fits, rules)

pub overflow_add-result-2 : goal.overflow_add-result-2
overflow_add-result-2 c = search (after_fits, rules)

pub returns : goal.returns
returns c = ((search step_new, search rules), search opened_new)
