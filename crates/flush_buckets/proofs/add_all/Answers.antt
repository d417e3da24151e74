-- `flush_buckets::add_all` meets its contract: every bit is set.
use Rattle.flush_buckets.proofs.Laws.{adds_all}
use Rattle.flush_buckets.proofs.add_all.Goals as goal

pub returns : goal.returns
returns c = search adds_all
