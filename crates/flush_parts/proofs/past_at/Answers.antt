-- `flush_parts::past_at` meets its contract: each way out is a case of the definition.
use Prim.Native.Nat.{◌^◌, ◌<◌}
use Rattle.flush_parts.proofs.Parts.{first_room, second_room, number_fits, item_past, block_past, end_fits, item_fits}
use borrow.Author.Rules.{rules}
use Rattle.flush_parts.proofs.past_at.Goals as goal

pub number_at-n-requires : goal.number_at-n-requires
number_at-n-requires c = (search rules, search second_room)

pub returns-then-block : goal.returns-then-block
returns-then-block c = (search block_past, search end_fits)

pub number_at-requires : goal.number_at-requires
number_at-requires c = (search rules, search first_room)

pub overflow_add-result-2 : goal.overflow_add-result-2
overflow_add-result-2 c = let h : c.number_at.result < 2 ^ 48 = search number_fits in search rules

pub returns : goal.returns
returns c = (search item_past, search item_fits)
