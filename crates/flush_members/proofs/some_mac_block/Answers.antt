-- `flush_members::some_mac_block` meets its contract. The invariant: some block is not empty exactly if one from block i on is not.
use Rattle.numbers.specs.Numberings.{macs, some_filled}
use Rattle.flush_members.proofs.Laws.{filled_near, seek_start, seek_done, seek_hit, seek_next}
use borrow.Author.Rules.{rules}
use Rattle.flush_members.proofs.some_mac_block.Goals as goal

pub loop-i-init : goal.loop-i-init
unfolding some_filled
loop-i-init c = search (seek_start, rules)

pub returns-then-mac_block_filled : goal.returns-then-mac_block_filled
returns-then-mac_block_filled c = search (seek_hit, filled_near macs)

pub loop-i-preserved : goal.loop-i-preserved
loop-i-preserved c = search (seek_next, filled_near macs)

pub returns : goal.returns
returns c = search (seek_done, filled_near macs)
