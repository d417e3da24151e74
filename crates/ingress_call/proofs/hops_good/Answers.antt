-- `ingress_call::hops_good` meets its contract: the tests are the definition's.
use Rattle.numbers.specs.Tests.{both, between}
use Rattle.ingress.specs.Ingress.{hops_good}
use Rattle.ingress_call.proofs.hops_good.Goals as goal

pub returns : goal.returns
unfolding hops_good between both
returns c = cc
