-- `table_states::free_at` meets its contract: the fields decide, and then the byte of the mark.
use mathlib.Core.Path.{sym, ◌∙◌}
use Rattle.table.specs.Learning.{free_slot}
use Rattle.table.specs.Record.{unpacked}
use Rattle.table.proofs.Marks.{free_none, free_bits}
use Rattle.table_states.proofs.free_at.Goals as goal

pub returns-then-not-free_fields_at : goal.returns-then-not-free_fields_at
unfolding free_slot unpacked
returns-then-not-free_fields_at c = free_none _ _ (sym c.free_fields_at.ensures ∙ c.if-not-free_fields_at.true)

pub returns : goal.returns
unfolding free_slot unpacked
returns c = free_bits _ _ _ (sym c.free_fields_at.ensures ∙ c.if-not-free_fields_at.false) c.mark_at.ensures.0
