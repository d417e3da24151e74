-- `flush_write_lists::block_good` meets its contract: the two numbers, and three tests.
use Rattle.flush_write_lists.proofs.Laws.{block_tells}
use Rattle.flush_write_lists.proofs.block_good.Goals as goal

pub returns : goal.returns
returns c =
    let a = c.args in
    block_tells a.l.now a.at a.k a.low a.high _ _ c.block_in-b.ensures.0 c.block_in-b.ensures.1
