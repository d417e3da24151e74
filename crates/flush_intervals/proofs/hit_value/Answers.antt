-- `flush_intervals::hit_value` meets its contract: each way out is a case of the definition.
use Rattle.flush_intervals.proofs.Walks.{value_blocks, value_singles, value_maps, value_other}
use Rattle.flush_intervals.proofs.hit_value.Goals as goal

pub returns-then-k-naming : goal.returns-then-k-naming
returns-then-k-naming c = search value_blocks

pub returns-then-k-naming-2 : goal.returns-then-k-naming-2
returns-then-k-naming-2 c = search value_singles

pub returns-then-naming-k : goal.returns-then-naming-k
returns-then-naming-k c = search value_maps

pub returns-else-naming-k : goal.returns-else-naming-k
returns-else-naming-k c = search value_other
