-- `flush_buckets::has_alone` meets its contract.
use Rattle.flush_buckets.proofs.Laws.{alone_tested}
use Rattle.flush_buckets.proofs.has_alone.Goals as goal

pub returns : goal.returns
returns c = search alone_tested
