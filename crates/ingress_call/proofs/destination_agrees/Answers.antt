-- `ingress_call::destination_agrees` meets its contract: M 1, or M 0.
use Rattle.ingress_call.proofs.Laws.{agrees-all, agrees-one}
use Rattle.ingress_call.proofs.destination_agrees.Goals as goal

pub returns-then-u-eq1 : goal.returns-then-u-eq1
returns-then-u-eq1 c = search agrees-all

pub returns : goal.returns
returns c = search agrees-one
