-- `flush_filters::hit_keys` meets its contract.
use Rattle.flush_filters.proofs.Laws.{named_hits}
use Rattle.flush_filters.proofs.hit_keys.Goals as goal

pub returns : goal.returns
returns c = named_hits _ _ c.naming_of.ensures.0 _ _ _ _ c.hit_named.ensures
