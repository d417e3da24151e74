-- `table_widening::widen` meets its contract: 2 by the old lengths, then 16, then the wider table.
use native.Mathlib.Omega.{arith}
use Rattle.table_widening.proofs.Laws.{widen_refused, widen_short, widen_done, widen_small}
use Rattle.table_widening.proofs.widen.Goals as goal

pub returns-then-not-old_good : goal.returns-then-not-old_good
returns-then-not-old_good c =
    let a = c.args in
    widen_refused a.old.now a.out.now _ c.old_good.ensures c.if-not-old_good.true

pub returns-then-out-m : goal.returns-then-out-m
returns-then-out-m c =
    let a = c.args in
    widen_short a.old.now a.out.now _ c.old_good.ensures c.if-not-old_good.false c.if-out-m.true

pub overflow_cast-result : goal.overflow_cast-result
overflow_cast-result c =
    let a = c.args in
    omega (arith, widen_small a.old.now a.out.now _ c.old_good.ensures c.if-not-old_good.false)

pub returns : goal.returns
returns c =
    let a = c.args in
    widen_done a.old.now a.out.now _ c.old_good.ensures c.if-not-old_good.false c.if-out-m.false _ c.widen_slots.ensures
