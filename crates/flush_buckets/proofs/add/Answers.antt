-- `flush_buckets::add` meets its contract.
use Rattle.flush_buckets.proofs.Laws.{names_few, names_all}
use Rattle.flush_buckets.proofs.add.Goals as goal

pub returns-then-add_short : goal.returns-then-add_short
returns-then-add_short c = names_few _ _ _ _ _ c.add_short.ensures c.if-add_short.true

pub returns : goal.returns
returns c = names_all _ _ _ _ _ _ _ c.add_short.ensures c.add_all.ensures
