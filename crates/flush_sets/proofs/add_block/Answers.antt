-- `flush_sets::add_block` meets its contract: the numbers between its ends, or none.
use Rattle.flush_sets.proofs.Adding.{block_added, block_empty}
use Rattle.flush_sets.proofs.add_block.Goals as goal

pub returns-then-first-last : goal.returns-then-first-last
returns-then-first-last c = search block_added

pub returns-else-first-last : goal.returns-else-first-last
returns-else-first-last c = search block_empty
