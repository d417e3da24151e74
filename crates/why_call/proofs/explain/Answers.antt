-- `why_call::explain` meets its contract: refused by the table, by the slot or by the payload, or the reason.
use Rattle.why_call.proofs.Laws.{why_table, why_past, why_corrupt, good_parts, why_because}
use mathlib.Core.Path.{refl}
use borrow.Author.Rules.{rules}
use Rattle.why_call.proofs.explain.Goals as goal

pub returns-then-not-table_good : goal.returns-then-not-table_good
returns-then-not-table_good c = search why_table

pub returns-then-table-slot : goal.returns-then-table-slot
returns-then-table-slot c = search why_past

pub slot_reason-requires : goal.slot_reason-requires
slot_reason-requires c = (search (good_parts, c.in-Ok.ensures), search rules)

pub returns-in-Err : goal.returns-in-Err
returns-in-Err c = search (why_corrupt, c.in-Err.ensures)

pub returns : goal.returns
returns c = why_because _ _ _ _ _ c.table_good.ensures c.if-not-table_good.false c.if-table-slot.false _ c.in-Ok.ensures _ refl _ c.slot_reason.ensures
