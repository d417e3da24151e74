-- `flush_members::in_blocks` meets its contract. The invariant: some block has x in it exactly if one from block i on has.
use Rattle.numbers.specs.Numberings.{in_blocks}
use Rattle.flush_members.proofs.Laws.{blocks_below, blocks_above, block_near, seek_start, seek_done, seek_hit, seek_next}
use borrow.Author.Rules.{rules}
use Rattle.flush_members.proofs.in_blocks.Goals as goal

pub returns-then-x-low : goal.returns-then-x-low
returns-then-x-low c = search blocks_below

pub returns-then-high-x : goal.returns-then-high-x
returns-then-high-x c = search blocks_above

pub loop-i-init : goal.loop-i-init
unfolding in_blocks
loop-i-init c = search (seek_start, rules)

pub returns-then-block_has : goal.returns-then-block_has
returns-then-block_has c = search (seek_hit, block_near)

pub loop-i-preserved : goal.loop-i-preserved
loop-i-preserved c = search (seek_next, block_near)

pub returns : goal.returns
returns c = search (seek_done, block_near)
