-- What a portion keeps of every table: homes apart, spoilt and configured records.
-- Assumes nothing.
use Prim.Native.Nat.{ℕ, ◌+◌, ◌<◌, ◌≤◌}
use mathlib.Core.Bool.{Bool, true, false}
use mathlib.Core.List.{List}
use mathlib.Core.Logic.{⊎_elim}
use mathlib.Core.Path.{◌≡◌, refl, sym, ap, ◌∙◌}
use native.Mathlib.Omega.{arith}
use lib.Dec.{leb, ltb}
use lib.ListN.{length}
use borrow.Author.Tests.{ltb-true}
use Rattle.numbers.specs.Tests.{both}
use Rattle.numbers.specs.Result.{Outcome, check, and_then, settled}
use Rattle.numbers.specs.After.{on_table}
use Rattle.numbers.proofs.Truth.{both_true}
use Rattle.table.specs.Record.{unpacked}
use Rattle.table.specs.Slots.{table_good, slots_of, slot_at, on_slots}
use Rattle.table.specs.Table.{holds, holds_home, holds_unmarked}
use Rattle.table.specs.Claims.{Alone, Apart, Stays, IsSpoilt, IsConfigured}
use Rattle.table.specs.declared.Entry.{Entry}
use Rattle.table.specs.declared.Slot.{Slot}
use Rattle.table.specs.declared.Slot.TheVariants.{Free, Spoilt, Learned, Configured}
use Rattle.table.proofs.Slots.{length-on_slots}
use Rattle.table.proofs.Stays.{spoilt_free, spoilt_learned, configured_free, configured_learned}
use Rattle.table.proofs.Apart.{Less, freeing_lessens}
use Rattle.flush.specs.Payload.{every_type, Payload, payload_of}
use Rattle.flush.specs.Flush.{held_meant, slot_meant, cleared_slot}
use Rattle.flush.proofs.Flushing.{cleared_keeps, cleared_miss}
use Rattle.portions.specs.Portion.{portion_steps, portion_by, portion_answered, portioned}
use Rattle.portions.specs.Claims.{PortionKeepsApart, PortionLeavesAlone}
use Rattle.table.proofs.Ranges.{slot-either}
use Rattle.portions.proofs.Portions.{steps_within}
use Rattle.std.specs.Prelude.{Ok, Err}
use Rattle.numbers.specs.declared.refusals.Refusal.TheVariants.{TableLengthBad, PortionBad}

-- what holds of the table as it was, and of the table with some of its slots cleared, holds after the call
module _ (P : List ℕ → Type 0) (ingress : ℕ) (slot k : ℕ) (t : List ℕ) (here : P t)
    (there : (p : Payload) (m : ℕ) → slot + m ≤ slots_of t → P (on_slots (cleared_slot (slot_meant every_type p ingress)) slot m t)) where
  outcome : (good fine : Bool) → (fine ≡ true → slot < slots_of t) → (r : Outcome Payload)
      → P (settled (λ n. on_table (Err n) t) (check good TableLengthBad (check fine PortionBad (and_then r λ p. Ok (portion_answered (portion_by (slot_meant every_type p ingress) slot (portion_steps slot k (slots_of t)) t)))))).table
  unfolding settled check and_then portion_by
  outcome false fine inside r = here
  outcome true false inside r = here
  outcome true true inside (Err n) = here
  outcome true true inside (Ok p) =
      let h : slot < slots_of t = inside refl in
      there p (portion_steps slot k (slots_of t)) (steps_within slot k (slots_of t) (omega arith))

  after : (l : List ℕ) → P (portioned ingress l slot k t).table
  unfolding portioned
  after l = outcome (table_good t) (both (leb 1 k) (ltb slot (slots_of t))) (λ e. ltb-true slot (slots_of t) (both_true (leb 1 k) (ltb slot (slots_of t)) e).1) (payload_of every_type l)

module _ (meant : List ℕ → Bool) (t : List ℕ) (slot m : ℕ) (room : slot + m ≤ slots_of t) where
  abbrev left : List ℕ
  left = on_slots (cleared_slot meant) slot m t

  -- no slot comes to pass a test that clearing does not bring
  less : (p : List ℕ → Bool) → Less p (cleared_slot meant) → (j : ℕ) → p (slot_at j left) ≡ true → p (slot_at j t) ≡ true
  less p lessens j h =
      ⊎_elim (λ e. lessens (slot_at j t) (sym (ap p e) ∙ h)) (λ e. sym (ap p e) ∙ h)
      (slot-either (cleared_slot meant) (cleared_keeps meant) t slot m j (omega arith))

  alone : (p q : List ℕ → Bool) → Less p (cleared_slot meant) → Less q (cleared_slot meant) → Alone p q t → Alone p q left
  alone p q lp lq u i j hi hj pi qj =
      let long : length left ≡ length t = length-on_slots (cleared_slot meant) (cleared_keeps meant) t slot m (omega arith) in
      u i j (omega arith) (omega arith) (less p lp i pi) (less q lq j qj)

  apart : Apart t → Apart left
  unfolding cleared_slot
  apart u =
      let lessens = freeing_lessens (cleared_slot meant) meant (λ r. refl) in
      record {
        homes = λ l a n. alone (holds_home l a n) (holds_home l a n) (lessens.home l a n) (lessens.home l a n) (u.homes l a n);
        unmarked = λ l a. alone (holds_unmarked l a) (holds l a) (lessens.unmarked l a) (lessens.pair l a) (u.unmarked l a);
      }

  stays : (j : ℕ) → meant (slot_at j t) ≡ false → slot_at j left ≡ slot_at j t
  stays j miss =
      ⊎_elim (λ e. e ∙ cleared_miss meant (slot_at j t) miss) (λ e. e)
      (slot-either (cleared_slot meant) (cleared_keeps meant) t slot m j (omega arith))

pub portion_keeps_apart : PortionKeepsApart
portion_keeps_apart ingress l slot k t u = after Apart ingress slot k t u (λ p m room. apart (slot_meant every_type p ingress) t slot m room u) l

-- records of a kind that is neither free nor learned keep their bytes
module _ (Such : Slot → Type 0) (not-Free : Such Free → ⊥) (not_learned : (e : Entry) → Such (Learned e) → ⊥) where
  unmeant : (p : Payload) (ingress : ℕ) (x : Slot) → Such x → held_meant every_type p ingress x ≡ false
  unmeant p ingress Free h = refl
  unmeant p ingress Spoilt h = refl
  unmeant p ingress (Learned e) h = absurd (not_learned e h)
  unmeant p ingress (Configured e) h = refl

  portion_stays : (ingress : ℕ) (l : List ℕ) (slot k : ℕ) (t : List ℕ) → Stays Such t (portioned ingress l slot k t).table
  unfolding slot_meant
  portion_stays ingress l slot k t =
      after (Stays Such t) ingress slot k t (λ j h such. refl)
      (λ p m room j h such. stays (slot_meant every_type p ingress) t slot m room j (unmeant p ingress (unpacked (slot_at j t)) such)) l

pub portion_leaves_alone : PortionLeavesAlone
portion_leaves_alone ingress l slot k t = record {
  spoilt = portion_stays IsSpoilt spoilt_free spoilt_learned ingress l slot k t;
  configured = portion_stays IsConfigured configured_free configured_learned ingress l slot k t;
}
