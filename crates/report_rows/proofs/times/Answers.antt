-- `report_rows::times` meets its contract. The invariant: n is the count of the tallies from place i on.
use native.Mathlib.Omega.{arith}
use Rattle.report_rows.proofs.Laws.{times_none, times_next, times_end, times_all}
use Rattle.report_rows.proofs.times.Goals as goal

pub loop-i-init : goal.loop-i-init
loop-i-init c = (omega arith, times_none c.args.k c.args.v.now)

pub returns-then-t-lt-FREE_KEY : goal.returns-then-t-lt-FREE_KEY
returns-then-t-lt-FREE_KEY c =
    let at = c.loop-i in
    times_end c.args.k c.args.v.now at.i at.n at.invariant.1 (omega arith) (omega arith) c.requires.1.0 (omega arith)

pub loop-i-preserved : goal.loop-i-preserved
loop-i-preserved c =
    let at = c.loop-i in
    (omega arith, times_next c.args.k c.args.v.now at.i at.n at.invariant.1 (omega arith) (omega arith) c.count_if-n.result c.count_if-n.ensures.0)

pub returns : goal.returns
returns c =
    let at = c.loop-i in
    times_all c.args.k c.args.v.now at.i at.n at.invariant.1 (omega arith)
