-- `ingress_call::given_good` meets its contract: the tests are the definition's.
use Rattle.numbers.specs.Tests.{both}
use Rattle.ingress.specs.Ingress.{given_good}
use Rattle.ingress_call.proofs.given_good.Goals as goal

pub returns : goal.returns
unfolding given_good both
returns c = cc
