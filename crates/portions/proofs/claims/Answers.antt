-- What `portions::claims` ensures is proved in the modules beside.
use Rattle.portions.proofs.Portions.{portion_exact, portion_refusal}
use Rattle.portions.proofs.Runs.{portions_whole, portions_reach, portions_end}
use Rattle.portions.proofs.Keeping.{portion_keeps_apart, portion_leaves_alone}
use Rattle.portions.proofs.Between.{later, passed}
use Rattle.portions.proofs.claims.Goals as goal

pub returns : goal.returns
returns c = (portion_exact, portion_refusal, portions_whole, portions_reach, portions_end, portion_keeps_apart, portion_leaves_alone, later, passed)
