-- `convert_expand::outer_good` meets its contract: the tests are the definition's.
use Rattle.convert_expand.specs.Meaning.{outer_good}
use Rattle.numbers.specs.Tests.{both}
use Rattle.convert_expand.proofs.outer_good.Goals as goal

pub returns : goal.returns
unfolding outer_good both
returns c = cc
