-- `flush_named::add_map` meets its contract: a bit map lies in the interval that is added.
use Rattle.flush_named.proofs.Laws.{map_none, map-within}
use Rattle.flush_named.proofs.add_map.Goals as goal

pub returns-then-v-w : goal.returns-then-v-w
returns-then-v-w c = map_none _ _ _ c.if-v-w.true

pub returns : goal.returns
returns c = map-within _ _ _ _ c.map_low-s.ensures.1 c.map_past-e.ensures.1 _ _ _ c.add.ensures
