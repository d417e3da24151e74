-- `port_map_judge::label_again` meets its contract: the search from there on finds a pair, or none.
use mathlib.Core.Path.{◌∙◌}
use Rattle.port_map_judge.proofs.Laws.{again}
use Rattle.port_map_judge.proofs.label_again.Goals as goal

pub returns : goal.returns
returns c = let a = c.args in c.is_some.ensures ∙ again a.map.now a.from a.l _ c.vlan_for.ensures
