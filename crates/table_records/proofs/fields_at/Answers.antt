-- `table_records::fields_at` meets its contract: free, or what the state and the entry decide.
use mathlib.Core.Path.{sym, ap, ◌∙◌}
use Rattle.table.specs.Record.{slot_of}
use Rattle.table.proofs.Contents.{slot_free}
use borrow.Author.Rules.{rules}
use Rattle.table_records.proofs.fields_at.Goals as goal

pub returns-then-is_free : goal.returns-then-is_free
returns-then-is_free c = slot_free _ (sym c.is_free.ensures ∙ c.if-is_free.true) ∙ ap slot_of (sym c.bits_at-b.ensures.number)

pub held_or_spoilt-requires : goal.held_or_spoilt-requires
held_or_spoilt-requires c = (search rules, sym c.is_free.ensures ∙ c.if-is_free.false)

pub returns : goal.returns
returns c = c.held_or_spoilt.ensures ∙ ap slot_of (sym c.bits_at-b.ensures.number)
