-- `port_map_pairs::numbers_good` meets its contract: each branch by its test.
use mathlib.Core.Path.{refl, sym, ◌∙◌}
use Rattle.numbers.proofs.Steps.{both_fails, both-goes_on}
use Rattle.port_map_pairs.proofs.numbers_good.Goals as goal

pub returns-then-vlan_good : goal.returns-then-vlan_good
returns-then-vlan_good c = both-goes_on _ _ _ (sym c.vlan_good.ensures ∙ c.if-vlan_good.true) refl

pub returns : goal.returns
returns c = both_fails _ _ (sym c.vlan_good.ensures ∙ c.if-vlan_good.false)
