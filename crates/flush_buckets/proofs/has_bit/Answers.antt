-- `flush_buckets::has_bit` meets its contract.
use Rattle.flush_buckets.proofs.Laws.{bit_tested}
use Rattle.flush_buckets.proofs.has_bit.Goals as goal

pub returns : goal.returns
returns c = search bit_tested
