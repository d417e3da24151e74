-- `flush_named::add_value` meets its contract: each way out is a case of the definition.
use Rattle.flush_named.proofs.Laws.{value_blocks, value_singles, value_map, value_other}
use Rattle.flush_named.proofs.add_value.Goals as goal

pub returns-then-k-naming : goal.returns-then-k-naming
returns-then-k-naming c = search value_blocks

pub returns-then-k-naming-2 : goal.returns-then-k-naming-2
returns-then-k-naming-2 c = search value_singles

pub returns-then-naming-k : goal.returns-then-naming-k
returns-then-naming-k c = search value_map

pub returns : goal.returns
returns c = search value_other
