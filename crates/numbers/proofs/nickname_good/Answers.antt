-- `numbers::nickname_good` meets its contract: the tests are the definition's.
use mathlib.Core.Path.{refl}
use Rattle.numbers.specs.Tests.{both, between}
use Rattle.numbers.specs.Ranges.{nickname_good}
use Rattle.numbers.proofs.nickname_good.Goals as goal

pub returns : goal.returns
unfolding nickname_good between both
returns c = refl
