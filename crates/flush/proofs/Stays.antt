-- A record that is neither free nor learned keeps its bytes under a flush: none but learned ones are meant.
-- Assumes nothing.
use Prim.Native.Nat.{ℕ}
use mathlib.Core.Bool.{Bool, true, false}
use mathlib.Core.List.{List}
use mathlib.Core.Path.{◌≡◌, refl, subst, ◌∙◌}
use Rattle.numbers.specs.Result.{Outcome, check, and_then, settled}
use Rattle.numbers.specs.After.{OnTable, on_table}
use Rattle.numbers.proofs.Answers.{got_got, then_got}
use Rattle.table.specs.Record.{unpacked}
use Rattle.table.specs.Slots.{table_good, slots_of, slot_at, on_slots}
use Rattle.table.specs.Claims.{Stays, IsSpoilt, IsConfigured, LeavesAlone}
use Rattle.table.specs.declared.Entry.{Entry}
use Rattle.table.specs.declared.Slot.{Slot}
use Rattle.table.specs.declared.Slot.TheVariants.{Free, Spoilt, Learned, Configured}
use Rattle.table.proofs.Slots.{slot_all_slots}
use Rattle.table.proofs.Stays.{spoilt_free, spoilt_learned, configured_free, configured_learned}
use Rattle.flush.specs.Payload.{every_type, Payload, payload_of}
use Rattle.flush.specs.Flush.{held_meant, slot_meant, cleared_slot, cleared_by, clearing, answered, flushed}
use Rattle.flush.specs.Claims.{FlushingLeavesAlone}
use Rattle.flush.proofs.Flushing.{cleared_keeps, cleared_miss}
use Rattle.std.specs.Prelude.{Ok, Err}
use Rattle.numbers.specs.declared.refusals.Refusal.TheVariants.{TableLengthBad}

module _ (Such : Slot → Type 0) (not-Free : Such Free → ⊥) (not_learned : (e : Entry) → Such (Learned e) → ⊥) where
  unmeant : (p : Payload) (ingress : ℕ) (x : Slot) → Such x → held_meant every_type p ingress x ≡ false
  unmeant p ingress Free h = refl
  unmeant p ingress Spoilt h = refl
  unmeant p ingress (Learned e) h = absurd (not_learned e h)
  unmeant p ingress (Configured e) h = refl

  cleared_stays : (p : Payload) (ingress : ℕ) (t : List ℕ) → Stays Such t (on_slots (cleared_slot (slot_meant every_type p ingress)) 0 (slots_of t) t)
  unfolding slot_meant
  cleared_stays p ingress t k h such =
      slot_all_slots (cleared_slot (slot_meant every_type p ingress)) (cleared_keeps (slot_meant every_type p ingress)) t k h
      ∙ cleared_miss (slot_meant every_type p ingress) (slot_at k t) (unmeant p ingress (unpacked (slot_at k t)) such)

  outcome_stays : (ingress : ℕ) (t : List ℕ) (good : Bool) (r : Outcome Payload)
      → Stays Such t (settled (λ n. on_table (Err n) t) (check good TableLengthBad (and_then (and_then r λ p. Ok (cleared_by (slot_meant every_type p ingress) t)) λ c. Ok (answered c)))).table
  unfolding cleared_by settled check and_then
  outcome_stays ingress t false r = λ k h such. refl
  outcome_stays ingress t true (Err n) = λ k h such. refl
  outcome_stays ingress t true (Ok p) = cleared_stays p ingress t

  flushing_stays : (ingress : ℕ) (l t : List ℕ) → Stays Such t (flushed ingress l t).table
  unfolding flushed clearing
  flushing_stays ingress l t = outcome_stays ingress t (table_good t) (payload_of every_type l)

  -- the same of a flush that came in a frame
  clearing-stays : (ingress : ℕ) (l t : List ℕ) (c : OnTable ℕ) → clearing every_type ingress l t ≡ Ok c → Stays Such t c.table
  unfolding clearing cleared_by
  clearing-stays ingress l t c q =
      let (p, r, e) = then_got _ _ _ q in
      subst (λ (x : OnTable ℕ). Stays Such t x.table) (got_got _ _ e) (cleared_stays p ingress t)

pub flushing_leaves_alone : FlushingLeavesAlone
flushing_leaves_alone ingress l t = record {
  spoilt = flushing_stays IsSpoilt spoilt_free spoilt_learned ingress l t;
  configured = flushing_stays IsConfigured configured_free configured_learned ingress l t;
}

pub clearing_leaves_alone : (ingress : ℕ) (l t : List ℕ) (c : OnTable ℕ) → clearing every_type ingress l t ≡ Ok c → LeavesAlone t c.table
clearing_leaves_alone ingress l t c q = record {
  spoilt = clearing-stays IsSpoilt spoilt_free spoilt_learned ingress l t c q;
  configured = clearing-stays IsConfigured configured_free configured_learned ingress l t c q;
}
