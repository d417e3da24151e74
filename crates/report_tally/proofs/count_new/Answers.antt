-- `report_tally::count_new` meets its contract: a new tally is stored.
use native.Mathlib.Omega.{arith}
use Rattle.report_tally.proofs.Laws.{counted_new}
use Rattle.report_tally.proofs.count_new.Goals as goal

pub returns : goal.returns
returns c = counted_new c.args.tallies.now c.args.n c.args.k (omega arith)
