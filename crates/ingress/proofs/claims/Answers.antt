-- What `ingress::claims` ensures is proved in the modules beside.
use Rattle.ingress.proofs.Worked.{map_cases, ingress_refusal}
use Rattle.ingress.proofs.Trip.{map_round_trip}
use Rattle.ingress.proofs.claims.Goals as goal

pub returns : goal.returns
returns c = (map_cases, ingress_refusal, map_round_trip)
