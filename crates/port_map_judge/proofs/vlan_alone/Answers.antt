-- `port_map_judge::vlan_alone` meets its contract: bad, or what the search behind it says.
use Rattle.port_map_judge.proofs.Laws.{vlan_bad, vlan_beside}
use Rattle.port_map_judge.proofs.vlan_alone.Goals as goal

pub returns-then-not-vlan_good : goal.returns-then-not-vlan_good
returns-then-not-vlan_good c = search vlan_bad

pub returns : goal.returns
returns c = search vlan_beside
