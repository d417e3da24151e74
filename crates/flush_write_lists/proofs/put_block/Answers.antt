-- `flush_write_lists::put_block` meets its contract: the start, and then the end.
use Rattle.flush_write_lists.proofs.Laws.{pair_put}
use Rattle.flush_write_lists.proofs.put_block.Goals as goal

pub returns : goal.returns
returns c = search pair_put
