-- What `why::claims` ensures is proved in the modules beside.
use Rattle.why.proofs.Calls.{why_exact, why_first, why_places, why_refusals}
use Rattle.why.proofs.Cases.{why_cases}
use Rattle.why.proofs.claims.Goals as goal

pub returns : goal.returns
returns c = (why_exact, why_first, why_places, why_refusals, why_cases)
