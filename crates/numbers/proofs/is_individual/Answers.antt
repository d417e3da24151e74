-- `numbers::is_individual` meets its contract: the tests are the definition's.
use mathlib.Core.Path.{refl}
use Rattle.numbers.specs.Tests.{both}
use Rattle.numbers.specs.Ranges.{individual}
use Rattle.numbers.proofs.is_individual.Goals as goal

pub returns : goal.returns
unfolding individual both
returns c = refl
