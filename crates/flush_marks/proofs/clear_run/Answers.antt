-- `flush_marks::clear_run` meets its contract. The invariant: `i` slots from slot `k` on are free.
use mathlib.Core.Path.{refl}
use Rattle.flush_marks.proofs.Clearing.{run_none, run_next}
use borrow.Author.Rules.{rules}
use Rattle.flush_marks.proofs.clear_run.Goals as goal

pub loop-i-init : goal.loop-i-init
loop-i-init c = (refl, run_none _ _)

pub loop-i-preserved : goal.loop-i-preserved
loop-i-preserved c = (search rules, search run_next)
