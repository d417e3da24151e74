-- `numbers::vlan_good` meets its contract: the tests are the definition's.
use mathlib.Core.Path.{refl}
use Rattle.numbers.specs.Tests.{both, between}
use Rattle.numbers.specs.Ranges.{vlan_good}
use Rattle.numbers.proofs.vlan_good.Goals as goal

pub returns : goal.returns
unfolding vlan_good between both
returns c = refl
