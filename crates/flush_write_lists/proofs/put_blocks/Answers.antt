-- `flush_write_lists::put_blocks` meets its contract. The invariant: the blocks that are left, written at `to`, make the area that is asked for.
use Rattle.flush_write_lists.proofs.Laws.{blocks_start, blocks_inside, blocks_room, blocks_next, blocks_done}
use borrow.Author.Rules.{rules}
use Rattle.flush_write_lists.proofs.put_blocks.Goals as goal

pub loop-from-init : goal.loop-from-init
loop-from-init c = search blocks_start

pub put_block-requires : goal.put_block-requires
put_block-requires c = ((search rules, search blocks_inside), search blocks_room)

pub loop-from-preserved : goal.loop-from-preserved
loop-from-preserved c = search blocks_next

pub returns : goal.returns
returns c = search blocks_done
