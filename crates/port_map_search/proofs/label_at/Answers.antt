-- `port_map_search::label_at` meets its contract: the bytes of the pair.
use Rattle.port_map_search.proofs.Laws.{label_is}
use Rattle.port_map_search.proofs.label_at.Goals as goal

pub returns : goal.returns
returns c = search label_is
