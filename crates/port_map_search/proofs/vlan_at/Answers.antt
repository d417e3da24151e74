-- `port_map_search::vlan_at` meets its contract: the bytes of the pair.
use Rattle.port_map_search.proofs.Laws.{vlan_is}
use Rattle.port_map_search.proofs.vlan_at.Goals as goal

pub returns : goal.returns
returns c = search vlan_is
