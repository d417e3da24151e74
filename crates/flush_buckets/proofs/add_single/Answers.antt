-- `flush_buckets::add_single` meets its contract.
use Rattle.flush_buckets.proofs.Laws.{names_single}
use Rattle.flush_buckets.proofs.add_single.Goals as goal

pub returns : goal.returns
returns c = names_single _ _ _ c.add_bit.ensures
