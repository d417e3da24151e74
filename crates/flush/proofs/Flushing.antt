-- A flush of a good table with a good payload, slot by slot: what is learned and meant becomes free, and nothing else changes. So the
-- slots learned before and free after are those that were counted, and no slot holds a new home.
-- Assumes nothing.
use Prim.Native.Nat.{ℕ, zero, suc, ◌<◌, ◌≤◌}
use mathlib.Core.Bool.{Bool, true, false}
use mathlib.Core.List.{List}
use mathlib.Core.Logic.{◌↔◌}
use mathlib.Core.Path.{◌≡◌, refl, sym, ap, subst, ◌∙◌}
use native.Mathlib.Nat.{zero-add}
use native.Mathlib.Omega.{arith}
use Rattle.numbers.specs.Tests.{both}
use Rattle.numbers.specs.Result.{Outcome, check, and_then, settled}
use Rattle.numbers.specs.After.{OnTable, on_table}
use Rattle.numbers.proofs.Answers.{got_got, check_got, then_got}
use Rattle.numbers.proofs.Truth.{not_true_false, both_true, both_pass, pick_true, pick_false, false_true}
use Rattle.table.specs.Record.{unpacked, is_free, is_learned}
use Rattle.table.specs.Slots.{table_good, slots_of, slot_at, freed, on_slots, count_slots}
use Rattle.table.specs.Claims.{Apart}
use Rattle.table.specs.declared.Entry.{Entry}
use Rattle.table.specs.declared.Slot.{Slot}
use Rattle.table.specs.declared.Slot.TheVariants.{Free, Spoilt, Learned, Configured}
use Rattle.table.proofs.Slots.{Keeps, length_all_slots, slot_all_slots}
use Rattle.table.proofs.Refusals.{refusal_keeps}
use Rattle.table.proofs.Contents.{unpacked-freed}
use Rattle.table.proofs.Apart.{apart_all_slots, freeing_keeps, freeing_lessens}
use Rattle.flush.specs.Payload.{every_type, Payload, payload_of}
use Rattle.flush.specs.Meaning.{nickname_meant, label_meant, mac_meant, entry_meant}
use Rattle.flush.specs.Flush.{held_meant, slot_meant, cleared_slot, cleared_by, clearing, answered, flushed}
use Rattle.flush.specs.Sets.{Meant}
use Rattle.flush.specs.Claims.{learned_then_free, SlotFacts, Flushes, FlushExact, FlushingKeepsApart, FlushRefusal}
use Rattle.flush.proofs.Sets.{nickname_agrees, label_agrees, mac_agrees, sets_agree}
use Rattle.flush.proofs.Payloads.{payload_facts}
use Rattle.std.specs.Prelude.{Ok, Err}
use Rattle.numbers.specs.declared.refusals.Refusal.TheVariants.{TableLengthBad}
use Rattle.numbers.specs.declared.refusals.Refusal.{Refusal}

-- ---- a slot that is freed or left as it was

not_both : (s : Slot) → both (is_learned s) (is_free s) ≡ false
unfolding both
not_both Free = refl
not_both Spoilt = refl
not_both (Learned e) = refl
not_both (Configured e) = refl

module _ (meant : List ℕ → Bool) where
  pub cleared_hit : (r : List ℕ) → meant r ≡ true → cleared_slot meant r ≡ freed
  unfolding cleared_slot
  cleared_hit r h = pick_true _ _ _ h

  pub cleared_miss : (r : List ℕ) → meant r ≡ false → cleared_slot meant r ≡ r
  unfolding cleared_slot
  cleared_miss r h = pick_false _ _ _ h

  pub cleared_keeps : Keeps (cleared_slot meant)
  unfolding cleared_slot
  cleared_keeps = freeing_keeps (cleared_slot meant) meant (λ r. refl)

  pub cleared_apart : (t : List ℕ) → Apart t → Apart (on_slots (cleared_slot meant) 0 (slots_of t) t)
  unfolding cleared_slot
  cleared_apart t a = apart_all_slots (cleared_slot meant) cleared_keeps (freeing_lessens (cleared_slot meant) meant (λ r. refl)) t a

abbrev meant : Payload → ℕ → List ℕ → Bool
meant = slot_meant every_type

module _ (p : Payload) (ingress : ℕ) where
  -- ---- which slots are meant

  entry-agrees : (e : Entry) → (entry_meant every_type p ingress e ≡ true) ↔ Meant p ingress e
  unfolding entry_meant
  entry-agrees e = (
    λ h.
        let a = both_true (nickname_meant ingress p.nicks e.nickname) _ h in
        let b = both_true (label_meant every_type p.pieces e.label) (mac_meant every_type p.pieces e.mac) a.1 in
        record {
          nickname = (nickname_agrees ingress p.nicks e.nickname).0 a.0;
          label = (label_agrees p.pieces e.label).0 b.0;
          mac = (mac_agrees p.pieces e.mac).0 b.1;
        },
    λ m.
        both_pass _ _ ((nickname_agrees ingress p.nicks e.nickname).1 m.nickname)
        (both_pass _ _ ((label_agrees p.pieces e.label).1 m.label) ((mac_agrees p.pieces e.mac).1 m.mac)),
  )

  learned_meant : (r : List ℕ) (e : Entry) → unpacked r ≡ Learned e → Meant p ingress e → meant p ingress r ≡ true
  unfolding slot_meant
  learned_meant r e h m = rw h ((entry-agrees e).1 m)

  held_learned : (s : Slot) → held_meant every_type p ingress s ≡ true → (e : Entry) × (s ≡ Learned e) × Meant p ingress e
  held_learned Free h = false_true h
  held_learned Spoilt h = false_true h
  held_learned (Learned e) h = (e, refl, (entry-agrees e).0 h)
  held_learned (Configured e) h = false_true h

  meant_learned : (r : List ℕ) → meant p ingress r ≡ true → (e : Entry) × (unpacked r ≡ Learned e) × Meant p ingress e
  unfolding slot_meant
  meant_learned r h = held_learned (unpacked r) h

  -- ---- one slot afterwards

  module _ (t u : List ℕ) (k : ℕ) (left : slot_at k u ≡ cleared_slot (meant p ingress) (slot_at k t)) where
    slot_cleared : (e : Entry) → unpacked (slot_at k t) ≡ Learned e → Meant p ingress e → slot_at k u ≡ freed
    slot_cleared e h m = left ∙ cleared_hit (meant p ingress) (slot_at k t) (learned_meant (slot_at k t) e h m)

    slot_changed : (e : Entry) → unpacked (slot_at k t) ≡ Learned e → Meant p ingress e → slot_at k u ≡ slot_at k t → ⊥
    slot_changed e h m same =
        let free : unpacked (slot_at k t) ≡ Free = ap unpacked (sym same ∙ slot_cleared e h m) ∙ unpacked-freed in
        let z : ◌≡◌ {A = ℕ} 0 1 = cc in
        omega arith

    slot_kept : ((e : Entry) → unpacked (slot_at k t) ≡ Learned e → Meant p ingress e → ⊥) → slot_at k u ≡ slot_at k t
    slot_kept none =
        left
        ∙ cleared_miss (meant p ingress) (slot_at k t)
        (not_true_false (meant p ingress (slot_at k t)) (λ h. let s = meant_learned (slot_at k t) h in none s.0 s.1 s.2))

    slot_facts : SlotFacts p ingress t u k
    slot_facts = record { cleared = slot_cleared; changed = slot_changed; kept = slot_kept }

  -- ---- the count

  slot_counted : (r : List ℕ) (b : Bool) → meant p ingress r ≡ b → both (is_learned (unpacked r)) (is_free (unpacked (cleared_slot (meant p ingress) r))) ≡ b
  unfolding both
  slot_counted r true h =
      let s = meant_learned r h in
      rw (cleared_hit (meant p ingress) r h, unpacked-freed, s.1)
  slot_counted r false h = rw (cleared_miss (meant p ingress) r h) (not_both (unpacked r))

  module _ (t : List ℕ) where
    abbrev after : List ℕ
    after = on_slots (cleared_slot (meant p ingress)) 0 (slots_of t) t

    each_left : (k : ℕ) → k < slots_of t → slot_at k after ≡ cleared_slot (meant p ingress) (slot_at k t)
    each_left k h = slot_all_slots (cleared_slot (meant p ingress)) (cleared_keeps (meant p ingress)) t k h

    count-freed : (n : ℕ) → n ≤ slots_of t → count_slots (meant p ingress) 0 n t ≡ learned_then_free n t after
    unfolding count_slots learned_then_free
    count-freed zero h = refl
    count-freed (suc n) h =
        rw (
          zero-add n,
          count-freed n (omega arith),
          each_left n (omega arith),
          slot_counted (slot_at n t) (meant p ingress (slot_at n t)) refl,
        )

  -- ---- the call

  module _ (l t : List ℕ) (good : table_good t ≡ true) (read : payload_of every_type l ≡ Ok p) where
    flush_ran : flushed ingress l t ≡ answered (cleared_by (meant p ingress) t)
    unfolding flushed clearing settled check and_then
    flush_ran = rw (good, read)

    flushes : Flushes p ingress l t
    unfolding cleared_by
    flushes = record {
      each = λ k h. rw flush_ran (slot_facts t (after t) k (each_left t k h));
      same_length = rw flush_ran (length_all_slots (cleared_slot (meant p ingress)) (cleared_keeps (meant p ingress)) t);
      count = rw flush_ran (ap Ok (count-freed t (slots_of t) (omega arith)));
    }

flush_corrupt : (ingress : ℕ) (l t : List ℕ) (n : Refusal) → table_good t ≡ true → payload_of every_type l ≡ Err n → flushed ingress l t ≡ on_table (Err n) t
unfolding flushed clearing settled check and_then
flush_corrupt ingress l t n good read = rw (good, read)

pub flush_exact : FlushExact
flush_exact = record {
  sets = sets_agree;
  payload = payload_facts;
  flush = λ ingress l t p good read. flushes p ingress l t good read;
  corrupt = flush_corrupt;
}

-- ---- a refusal

pub flush_refusal : FlushRefusal
unfolding flushed
flush_refusal ingress l t n e =
    refusal_keeps Err _ t n
    (λ a q h.
    let p = check_got _ _ _ _ q in
    let (c, r, d) = then_got _ _ _ p.1 in
    let z : ◌≡◌ {A = ℕ} 0 1 = cc (ap (λ (x : OnTable (Outcome ℕ)). x.answer) (got_got _ _ d)) in
    omega arith)
    e

-- ---- no pair twice

outcome_apart : (ingress : ℕ) (t : List ℕ) (good : Bool) (r : Outcome Payload) → Apart t
    → Apart (settled (λ n. on_table (Err n) t) (check good TableLengthBad (and_then (and_then r λ p. Ok (cleared_by (slot_meant every_type p ingress) t)) λ c. Ok (answered c)))).table
unfolding cleared_by settled check and_then
outcome_apart ingress t false r u = u
outcome_apart ingress t true (Err n) u = u
outcome_apart ingress t true (Ok p) u = cleared_apart (meant p ingress) t u

pub flushing_keeps_apart : FlushingKeepsApart
unfolding flushed clearing
flushing_keeps_apart ingress l t u = outcome_apart ingress t (table_good t) (payload_of every_type l) u

-- the same of a flush that came in a frame
pub clearing-apart : (ingress : ℕ) (l t : List ℕ) (c : OnTable ℕ) → clearing every_type ingress l t ≡ Ok c → Apart t → Apart c.table
unfolding clearing cleared_by
clearing-apart ingress l t c q u =
    let (p, r, e) = then_got _ _ _ q in
    subst (λ (x : OnTable ℕ). Apart x.table) (got_got _ _ e) (cleared_apart (meant p ingress) t u)
