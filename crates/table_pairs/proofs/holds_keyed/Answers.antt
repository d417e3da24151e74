-- `table_pairs::holds_keyed` meets its contract: the fields decide, and then the 7 bits.
use mathlib.Core.Path.{sym, ◌∙◌}
use Rattle.table.specs.Record.{unpacked}
use Rattle.table.specs.Table.{holds}
use Rattle.table.proofs.Marks.{match_none, match_bits}
use Rattle.table_pairs.proofs.holds_keyed.Goals as goal

pub returns-then-not-fields_hold : goal.returns-then-not-fields_hold
unfolding holds unpacked
returns-then-not-fields_hold c = match_none _ _ _ _ (sym c.fields_hold.ensures ∙ c.if-not-fields_hold.true)

pub returns : goal.returns
unfolding holds unpacked
returns c = match_bits _ _ _ _ _ (sym c.fields_hold.ensures ∙ c.if-not-fields_hold.false) c.mark_at.ensures.0
