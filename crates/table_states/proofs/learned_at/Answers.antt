-- `table_states::learned_at` meets its contract: the fields decide, and then the 7 bits.
use mathlib.Core.Path.{sym, ◌∙◌}
use Rattle.table.specs.Record.{unpacked}
use Rattle.table.proofs.Marks.{learned_none, learned_bits}
use Rattle.table_states.proofs.learned_at.Goals as goal

pub returns-then-not-learned_fields_at : goal.returns-then-not-learned_fields_at
unfolding unpacked
returns-then-not-learned_fields_at c = learned_none _ _ (sym c.learned_fields_at.ensures ∙ c.if-not-learned_fields_at.true)

pub returns : goal.returns
unfolding unpacked
returns c = learned_bits _ _ _ (sym c.learned_fields_at.ensures ∙ c.if-not-learned_fields_at.false) c.mark_at.ensures.0
