-- `port_map_judge::vlan_again` meets its contract: the search from there on finds a pair, or none.
use mathlib.Core.Path.{◌∙◌}
use Rattle.port_map_judge.proofs.Laws.{vlan_again}
use Rattle.port_map_judge.proofs.vlan_again.Goals as goal

pub returns : goal.returns
returns c = let a = c.args in c.is_some.ensures ∙ vlan_again a.map.now a.from a.v _ c.label_for.ensures
