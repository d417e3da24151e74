-- `flush_marks::remove_all` meets its contract: it leaves zeros.
use Rattle.flush_marks.proofs.Bits.{zeros_unmarked}
use Rattle.flush_marks.proofs.remove_all.Goals as goal

pub returns : goal.returns
returns c = rw (c.fill.ensures.after (λ y e. e), c.requires) zeros_unmarked
