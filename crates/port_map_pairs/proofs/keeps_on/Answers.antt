-- `port_map_pairs::keeps_on` meets its contract: the two tests are the definition's.
use Rattle.numbers.proofs.Truth.{and_both}
use Rattle.port_map_pairs.proofs.keeps_on.Goals as goal

pub returns : goal.returns
returns c = and_both _ _
