-- `table_records::held_or_spoilt` meets its contract: the state and the entry decide.
use mathlib.Core.Path.{sym, ap, ◌∙◌}
use Rattle.table.specs.declared.Slot.TheVariants.{Learned, Configured}
use Rattle.table_records.specs.RecordBits.{number_of}
use Rattle.table.proofs.Contents.{slot_held, entry_bad, state_learned, state_configured, state_other}
use Rattle.table_records.proofs.held_or_spoilt.Goals as goal

pub returns-then-not-entry_good : goal.returns-then-not-entry_good
returns-then-not-entry_good c = entry_bad (number_of c.args.b) (sym c.entry_good.ensures ∙ c.if-not-entry_good.true) ∙ slot_held _ c.requires.1

pub entry_of-requires : goal.entry_of-requires
entry_of-requires c = (c.requires.0, sym c.entry_good.ensures ∙ c.if-not-entry_good.false)

pub returns-then-state-eq-LEARNED_STATE : goal.returns-then-state-eq-LEARNED_STATE
returns-then-state-eq-LEARNED_STATE c =
    ap Learned c.entry_of.ensures
    ∙ state_learned (number_of c.args.b) (sym c.entry_good.ensures ∙ c.if-not-entry_good.false) (sym c.state_of-state.ensures ∙ c.if-state-eq-LEARNED_STATE.true)
    ∙ slot_held _ c.requires.1

pub entry_of-requires-then-state-eq-CONFIGURED_STATE : goal.entry_of-requires-then-state-eq-CONFIGURED_STATE
entry_of-requires-then-state-eq-CONFIGURED_STATE c = (c.requires.0, sym c.entry_good.ensures ∙ c.if-not-entry_good.false)

pub returns-then-state-eq-CONFIGURED_STATE : goal.returns-then-state-eq-CONFIGURED_STATE
returns-then-state-eq-CONFIGURED_STATE c =
    ap Configured c.entry_of-then-state-eq-CONFIGURED_STATE.ensures
    ∙ state_configured (number_of c.args.b) (sym c.entry_good.ensures ∙ c.if-not-entry_good.false) (sym c.state_of-state.ensures ∙ c.if-state-eq-CONFIGURED_STATE.true)
    ∙ slot_held _ c.requires.1

pub returns : goal.returns
returns c =
    state_other (number_of c.args.b) (sym c.entry_good.ensures ∙ c.if-not-entry_good.false)
    (λ e. c.if-state-eq-LEARNED_STATE.false (c.state_of-state.ensures ∙ e))
    (λ e. c.if-state-eq-CONFIGURED_STATE.false (c.state_of-state.ensures ∙ e))
    ∙ slot_held _ c.requires.1
