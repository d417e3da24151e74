-- `hello_ends::three_good` meets its contract: the tests are the definition's.
use mathlib.Core.Path.{refl}
use Rattle.numbers.specs.Tests.{both}
use Rattle.hello_ends.proofs.three_good.Goals as goal

pub returns : goal.returns
unfolding both
returns c = refl
