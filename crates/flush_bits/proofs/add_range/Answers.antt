-- `flush_bits::add_range` meets its contract: a part of the first byte, bytes that are full, a part of the last.
use Rattle.flush_bits.proofs.Laws.{range_bytes}
use Rattle.flush_bits.proofs.add_range.Goals as goal

pub returns : goal.returns
returns c = search range_bytes
