-- `table_records::marked_slot` meets its contract: what the fields hold, and then the byte of the mark.
use mathlib.Core.Path.{◌∙◌}
use Rattle.table.specs.Record.{marked_slot}
use Rattle.table_records.proofs.marked_slot.Goals as goal

pub returns-in-Free : goal.returns-in-Free
unfolding marked_slot
returns-in-Free c = c.else_spoilt.ensures ∙ rw c.in-Free.is

pub returns-in-Spoilt : goal.returns-in-Spoilt
unfolding marked_slot
returns-in-Spoilt c = rw c.in-Spoilt.is

pub returns-in-Learned : goal.returns-in-Learned
unfolding marked_slot
returns-in-Learned c = c.else_spoilt-in-Learned.ensures ∙ rw (c.with_mark.ensures, c.in-Learned.is)

pub returns-in-Configured : goal.returns-in-Configured
unfolding marked_slot
returns-in-Configured c = c.else_spoilt-in-Configured.ensures ∙ rw (c.with_mark-in-Configured.ensures, c.in-Configured.is)
