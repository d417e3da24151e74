-- `ingress_call::nicks_good` meets its contract: the tests are the definition's.
use Rattle.numbers.specs.Tests.{both}
use Rattle.ingress.specs.Ingress.{nicks_good}
use Rattle.ingress_call.proofs.nicks_good.Goals as goal

pub returns : goal.returns
unfolding nicks_good both
returns c = cc
