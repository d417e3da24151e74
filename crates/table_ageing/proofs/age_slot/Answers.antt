-- `table_ageing::age_slot` meets its contract: each way out is a case of the definition.
use mathlib.Core.Path.{◌∙◌}
use Rattle.table_ageing.proofs.Laws.{age_freed, age_less}
use Rattle.table_ageing.proofs.age_slot.Goals as goal

pub returns-then-subtract_seconds : goal.returns-then-subtract_seconds
returns-then-subtract_seconds c =
    let a = c.args in
    c.clear.ensures ∙ age_freed a.s a.slot.now c.requires.1 _ c.subtract_seconds.ensures.0 c.if-subtract_seconds.true

pub returns-else-subtract_seconds : goal.returns-else-subtract_seconds
returns-else-subtract_seconds c =
    let a = c.args in
    let out = c.subtract_seconds.ensures in
    age_less a.s a.slot.now c.requires.1 _ out.0 c.if-subtract_seconds.false _ out.1
