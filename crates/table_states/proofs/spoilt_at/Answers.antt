-- `table_states::spoilt_at` meets its contract: the fields decide, then the 7 bits, then the mark of a free record.
use Prim.Native.Nat.{ℕ, ◌%◌, ◌^◌}
use mathlib.Core.Path.{sym, ap, ◌∙◌}
use lib.Dec.{eqb}
use Rattle.table.specs.Record.{unpacked}
use Rattle.table.specs.Table.{spoilt_slot}
use Rattle.table.proofs.Marks.{spoilt_fields, spoilt_none, spoilt_bits, spoilt_mark}
use Rattle.table_states.proofs.Laws.{state_free_lem}
use Rattle.table_states.proofs.spoilt_at.Goals as goal

pub returns-then-spoilt_fields_at : goal.returns-then-spoilt_fields_at
unfolding spoilt_slot unpacked
returns-then-spoilt_fields_at c = spoilt_fields _ _ (sym c.spoilt_fields_at.ensures ∙ c.if-spoilt_fields_at.true)

pub returns-then-mark-eq0 : goal.returns-then-mark-eq0
unfolding spoilt_slot unpacked
returns-then-mark-eq0 c = spoilt_none _ _ (sym c.spoilt_fields_at.ensures ∙ c.if-spoilt_fields_at.false) (sym c.mark_at-mark.ensures.0 ∙ c.if-mark-eq0.true)

pub returns-then-mark-ne0 : goal.returns-then-mark-ne0
unfolding spoilt_slot unpacked
returns-then-mark-ne0 c = spoilt_bits _ _ (λ z. c.if-mark-ne0.true (ap (λ (n : ℕ). n % 2 ^ 7) c.mark_at-mark.ensures.0 ∙ z))

pub returns : goal.returns
unfolding spoilt_slot unpacked
returns c =
    let b = c.mark_at-mark.ensures.0 in
    let whole = sym c.spoilt_fields_at.ensures ∙ c.if-spoilt_fields_at.false in
    ap (λ (n : ℕ). eqb n 0) c.state_at.ensures
    ∙ state_free_lem _ whole
    ∙ spoilt_mark _ _ whole (λ z. c.if-mark-eq0.false (b ∙ z)) (sym (ap (λ (n : ℕ). n % 2 ^ 7) b) ∙ c.if-mark-ne0.false)
