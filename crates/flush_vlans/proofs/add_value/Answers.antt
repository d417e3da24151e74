-- `flush_vlans::add_value` meets its contract: each way out is a case of the definition.
use Rattle.flush_vlans.proofs.Laws.{value_blocks, value_map, value_other}
use Rattle.flush_vlans.proofs.add_value.Goals as goal

pub returns-then-k-eq1 : goal.returns-then-k-eq1
returns-then-k-eq1 c = search value_blocks

pub returns-then-k-eq2 : goal.returns-then-k-eq2
returns-then-k-eq2 c = search value_map

pub returns-else-k-eq2 : goal.returns-else-k-eq2
returns-else-k-eq2 c = search value_other
