-- What `numbers::claims` ensures is proved in proofs/Widths.
use Rattle.numbers.proofs.Widths.{blocks_hold, maps_hold}
use Rattle.numbers.proofs.claims.Goals as goal

pub returns : goal.returns
returns c = (blocks_hold, maps_hold)
