-- `flush_buckets::add_bit` meets its contract.
use Rattle.flush_buckets.proofs.Laws.{adds_bit}
use Rattle.flush_buckets.proofs.add_bit.Goals as goal

pub returns : goal.returns
returns c = search adds_bit
