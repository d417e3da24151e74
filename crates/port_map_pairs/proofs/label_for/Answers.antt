-- `port_map_pairs::label_for` meets its contract: of what the three calls say.
use Rattle.port_map_pairs.proofs.Laws.{label_from_lem}
use Rattle.port_map_pairs.proofs.label_for.Goals as goal

pub returns : goal.returns
returns c = label_from_lem _ _ _ _ _ c.of_vlan-q.ensures c.scan-f.ensures c.label_in.ensures
