-- `flush_bits::none_at` meets its contract: no bit of 0 is set.
use Rattle.flush_bits.proofs.Laws.{byte_none}
use Rattle.flush_bits.proofs.none_at.Goals as goal

pub returns : goal.returns
returns c = byte_none _ _
