-- `numbers::le4` meets its contract: four bytes put together with the first one lowest are their number in the other order.
use mathlib.Core.Path.{sym, ◌∙◌}
use native.Mathlib.Omega.{arith}
use Rattle.numbers.proofs.Swapped.{swap_low4, num_four}
use Rattle.numbers.proofs.le4.Goals as goal

pub returns : goal.returns
returns c =
    let l = c.args.s.now in
    let k = c.args.k in
    let w0 = c.wide in
    let w1 = c.wide-2 in
    let w2 = c.wide-3 in
    let w3 = c.wide-4 in
    (swap_low4 _ _ _ _ w0.ensures.1 w1.ensures.1 w2.ensures.1 w3.ensures.1 ∙ rw (w0.ensures.0, w1.ensures.0, w2.ensures.0, w3.ensures.0) (sym (num_four l k c.requires)), omega arith)
