-- `frame_copy::copy_at` meets its contract. The invariant: the first `i` bytes are copied, and the others as they were.
use lib.Seq.{paste-zero}
use Rattle.frame_copy.proofs.Copying.{paste_step, paste_whole}
use borrow.Author.Rules.{rules}
use Rattle.frame_copy.proofs.copy_at.Goals as goal

pub loop-i-init : goal.loop-i-init
loop-i-init c = search (paste-zero, rules)

pub loop-i-preserved : goal.loop-i-preserved
loop-i-preserved c = search paste_step

pub returns : goal.returns
returns c = search paste_whole
