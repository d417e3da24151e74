-- `convert_expand::tag_good` meets its contract: the tests are the definition's.
use Rattle.convert.specs.Expansion.{tag_good}
use Rattle.numbers.specs.Tests.{both, either}
use Rattle.convert_expand.proofs.tag_good.Goals as goal

pub returns : goal.returns
unfolding tag_good both either
returns c = cc
