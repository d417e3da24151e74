-- `numbers::le8` meets its contract: eight bytes are four and four.
use mathlib.Core.Path.{sym, ◌∙◌}
use Rattle.numbers.proofs.Bytes.{num-add}
use Rattle.numbers.proofs.Swapped.{swap_join}
use Rattle.numbers.proofs.le8.Goals as goal

pub returns : goal.returns
returns c =
    swap_join _ _ c.le4.ensures.1 ∙ rw (c.le4.ensures.0, c.le4-2.ensures.0) (sym (num-add c.args.s.now c.args.k 4 4 c.requires))
