-- `flush_intervals::count_below` meets its contract. The invariant: all before base are below, all from base + n on are not.
use Rattle.flush_intervals.proofs.Ranges.{bracket_start, bracket_half, bracket_last}
use Rattle.flush_intervals.proofs.count_below.Goals as goal

pub loop-n-init : goal.loop-n-init
loop-n-init c = search bracket_start

pub loop-n-preserved : goal.loop-n-preserved
loop-n-preserved c = search bracket_half

pub returns-then-n-eq1 : goal.returns-then-n-eq1
returns-then-n-eq1 c = search bracket_last
