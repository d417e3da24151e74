-- `port_map_pairs::pair_good_at` meets its contract: of what the three calls say.
use Rattle.port_map_pairs.proofs.Laws.{good_at_lem}
use Rattle.port_map_pairs.proofs.pair_good_at.Goals as goal

pub returns : goal.returns
returns c = good_at_lem _ _ _ _ _ c.twin_of-q.ensures c.scan-f.ensures c.judged.ensures
