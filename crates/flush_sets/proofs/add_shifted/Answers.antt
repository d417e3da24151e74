-- `flush_sets::add_shifted` meets its contract: the bits fall on two bytes.
use Rattle.flush_sets.proofs.Maps.{shifted_added}
use Rattle.flush_sets.proofs.add_shifted.Goals as goal

pub returns : goal.returns
returns c = search shifted_added
