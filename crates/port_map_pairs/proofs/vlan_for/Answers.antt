-- `port_map_pairs::vlan_for` meets its contract: of what the three calls say.
use Rattle.port_map_pairs.proofs.Laws.{vlan_from}
use Rattle.port_map_pairs.proofs.vlan_for.Goals as goal

pub returns : goal.returns
returns c = vlan_from _ _ _ _ _ c.of_label-q.ensures c.scan-f.ensures c.vlan_in.ensures
