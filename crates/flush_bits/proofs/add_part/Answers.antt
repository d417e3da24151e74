-- `flush_bits::add_part` meets its contract: the bits of a mask are added to the byte.
use Rattle.flush_bits.proofs.Laws.{part_added}
use Rattle.flush_bits.proofs.add_part.Goals as goal

pub returns : goal.returns
returns c = search part_added
