-- `flush_members::in_map` meets its contract: a value too short for a start has no map.
use Rattle.flush_members.proofs.Laws.{map_short}
use Rattle.flush_members.proofs.in_map.Goals as goal

pub returns-then-v-w : goal.returns-then-v-w
returns-then-v-w c = search map_short
