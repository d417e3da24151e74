-- `flush_buckets::add_twice` meets its contract.
use Rattle.flush_buckets.proofs.Laws.{both_bits}
use Rattle.flush_buckets.proofs.add_twice.Goals as goal

pub returns : goal.returns
returns c = both_bits _ _ _ _ c.add_bit.ensures c.add_bit-2.ensures
