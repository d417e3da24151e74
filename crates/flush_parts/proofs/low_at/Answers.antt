-- `flush_parts::low_at` meets its contract: each way out is a case of the definition.
use Rattle.flush_parts.proofs.Parts.{first_room, number_fits, start_fits, item_low, block_low}
use borrow.Author.Rules.{rules}
use Rattle.flush_parts.proofs.low_at.Goals as goal

pub number_at-n-requires : goal.number_at-n-requires
number_at-n-requires c = (search rules, search first_room)

pub returns-then-block : goal.returns-then-block
returns-then-block c = (search block_low, search start_fits)

pub returns : goal.returns
returns c = (search item_low, search number_fits)
