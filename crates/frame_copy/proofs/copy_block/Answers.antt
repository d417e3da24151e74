-- `frame_copy::copy_block` meets its contract: the array takes the bytes, and gives them on.
use mathlib.Core.Path.{refl}
use Rattle.frame_copy.proofs.Copying.{paste_whole, take_next, give_next}
use native.Mathlib.Omega.{arith}
use lib.Seq.{paste-zero}
use borrow.Author.Rules.{rules}
use Rattle.frame_copy.proofs.copy_block.Goals as goal

pub loop-i-init : goal.loop-i-init
loop-i-init c = (refl, λ k h. absurd (omega arith))

pub loop-i-preserved : goal.loop-i-preserved
loop-i-preserved c =
    let l = c.loop-i in
    (search rules, take_next l.block c.args.src.now l.i (omega arith) l.invariant.1)

pub loop-j-init : goal.loop-j-init
loop-j-init c = (search paste-zero, λ k h. c.loop-i.invariant.1 k (omega arith))

pub loop-j-preserved : goal.loop-j-preserved
loop-j-preserved c = (search give_next, search rules)

pub returns : goal.returns
returns c = search paste_whole
