-- `flush_filters::mark_named` meets its contract: the keys that are hit mark their slots, sorted or not.
use Rattle.flush_filters.proofs.Laws.{marks_named}
use Rattle.flush_filters.proofs.mark_named.Goals as goal

pub returns : goal.returns
returns c = marks_named _ _ _ c.sort.ensures _ c.hit_keys.ensures _ _ c.collect.ensures
