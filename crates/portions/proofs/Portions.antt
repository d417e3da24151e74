-- One portion, slot by slot: it is the whole flush's clearing at its slots, and nothing else changes.
-- Assumes nothing.
use Prim.Native.Nat.{ℕ, zero, suc, ◌+◌, ◌-◌, ◌*◌, ◌<◌, ◌≤◌}
use mathlib.Core.Bool.{Bool, true, false}
use mathlib.Core.List.{List}
use mathlib.Core.Path.{◌≡◌, refl, sym, ap, ◌∙◌}
use native.Mathlib.Decide.{dec_lt}
use native.Mathlib.Omega.{arith}
use lib.Dec.{leb, ltb}
use lib.ListN.{length}
use borrow.Author.Tests.{le-leb, lt-leb, lt-ltb, le-ltb}
use Rattle.numbers.specs.Tests.{both}
use Rattle.numbers.specs.Result.{check, and_then, settled, Outcome}
use Rattle.numbers.specs.After.{OnTable, on_table}
use Rattle.numbers.proofs.Answers.{got_got, check_got, then_got}
use Rattle.numbers.proofs.Truth.{both_right, pick_true, pick_false, false_true}
use Rattle.table.specs.Record.{unpacked, is_free, is_learned}
use Rattle.table.specs.Slots.{slot_bytes, table_good, slots_of, slot_at, on_slots, count_slots}
use Rattle.table.proofs.Slots.{length-on_slots, drop-on_slots, slot-on_slots, slot_all_slots}
use Rattle.table.specs.declared.Slot.{Slot}
use Rattle.table.specs.declared.Slot.TheVariants.{Free, Spoilt, Learned, Configured}
use Rattle.table.proofs.Contents.{unpacked-freed}
use Rattle.table.proofs.Refusals.{refusal_keeps}
use Rattle.flush.specs.Payload.{every_type, Payload, payload_of}
use Rattle.flush.specs.Flush.{held_meant, slot_meant, cleared_slot, cleared_by, clearing, answered, flushed}
use Rattle.flush.specs.Claims.{SlotFacts}
use Rattle.flush.proofs.Flushing.{cleared_keeps, cleared_hit, cleared_miss, flush_exact}
use Rattle.portions.specs.Portion.{portion_steps, portion_by, portion_answered, portioned}
use Rattle.portions.specs.Claims.{freed_from, PassedStays, PortionFacts, PortionExact, PortionRefusal}
use Rattle.table.proofs.Ranges.{take-on_slots}
use Rattle.std.specs.Prelude.{Ok, Err}
use Rattle.numbers.specs.declared.refusals.Refusal.TheVariants.{TableLengthBad, PortionBad}
use Rattle.numbers.specs.declared.refusals.Refusal.{Refusal}
use Rattle.portions.specs.declared.Portion.{Portion}

-- ---- the steps

pub steps_k : (slot k n : ℕ) → k ≤ n - slot → portion_steps slot k n ≡ k
unfolding portion_steps
steps_k slot k n h = pick_true _ _ _ (le-leb k (n - slot) h)

pub steps_left : (slot k n : ℕ) → n - slot ≤ k → portion_steps slot k n ≡ n - slot
unfolding portion_steps
steps_left slot k n h = go (dec_lt (n - slot) k)
  where
    go : Dec (n - slot < k) → portion_steps slot k n ≡ n - slot
    go (yes l) = pick_false _ _ _ (lt-leb k (n - slot) l)
    go (no l) = let same : k ≡ n - slot = omega arith in steps_k slot k n (omega arith) ∙ same

pub steps_within : (slot k n : ℕ) → slot ≤ n → slot + portion_steps slot k n ≤ n
steps_within slot k n h = go (dec_lt (n - slot) k)
  where
    go : Dec (n - slot < k) → slot + portion_steps slot k n ≤ n
    go (yes l) = let e = steps_left slot k n (omega arith) in omega arith
    go (no l) = let e = steps_k slot k n (omega arith) in omega arith

-- ---- the call

module _ (ingress : ℕ) (l : List ℕ) (slot k : ℕ) (t : List ℕ) where
  pub bad_table : table_good t ≡ false → portioned ingress l slot k t ≡ on_table (Err TableLengthBad) t
  unfolding portioned settled check
  bad_table bad = rw bad

  pub past : table_good t ≡ true → slots_of t ≤ slot → portioned ingress l slot k t ≡ on_table (Err PortionBad) t
  unfolding portioned settled check
  past good h = rw (good, both_right (leb 1 k) (ltb slot (slots_of t)) (le-ltb slot (slots_of t) h))

  pub none : table_good t ≡ true → k ≡ 0 → portioned ingress l slot k t ≡ on_table (Err PortionBad) t
  unfolding portioned settled check both
  none good e = rw (good, e)

  module _ (good : table_good t ≡ true) (some : 0 < k) (inside : slot < slots_of t) where
    pub corrupt : (n : Refusal) → payload_of every_type l ≡ Err n → portioned ingress l slot k t ≡ on_table (Err n) t
    unfolding portioned settled check and_then both
    corrupt n read = rw (good, le-leb 1 k some, lt-ltb slot (slots_of t) inside, read)

    pub ran : (p : Payload) → payload_of every_type l ≡ Ok p
        → portioned ingress l slot k t ≡ portion_answered (portion_by (slot_meant every_type p ingress) slot (portion_steps slot k (slots_of t)) t)
    unfolding portioned settled check and_then both
    ran p read = rw (good, le-leb 1 k some, lt-ltb slot (slots_of t) inside, read)

-- ---- one slot: what was learned and is free afterwards was meant

not_both : (s : Slot) → both (is_learned s) (is_free s) ≡ false
unfolding both
not_both Free = refl
not_both Spoilt = refl
not_both (Learned e) = refl
not_both (Configured e) = refl

module _ (p : Payload) (ingress : ℕ) where
  meant_learned : (s : Slot) → held_meant every_type p ingress s ≡ true → is_learned s ≡ true
  meant_learned Free h = false_true h
  meant_learned Spoilt h = false_true h
  meant_learned (Learned e) h = refl
  meant_learned (Configured e) h = false_true h

  slot_counted : (r : List ℕ) (b : Bool) → slot_meant every_type p ingress r ≡ b → both (is_learned (unpacked r)) (is_free (unpacked (cleared_slot (slot_meant every_type p ingress) r))) ≡ b
  unfolding both slot_meant
  slot_counted r true h = rw (cleared_hit (slot_meant every_type p ingress) r h, unpacked-freed, meant_learned (unpacked r) h)
  slot_counted r false h = rw (cleared_miss (slot_meant every_type p ingress) r h) (not_both (unpacked r))

  -- the whole flush
  pub flush_ran : (l t : List ℕ) → table_good t ≡ true → payload_of every_type l ≡ Ok p → flushed ingress l t ≡ answered (cleared_by (slot_meant every_type p ingress) t)
  unfolding flushed clearing settled check and_then
  flush_ran l t good read = rw (good, read)

-- what the bytes of slot j say, they say in every table that has them there
facts_same : (p : Payload) (ingress : ℕ) (t u w : List ℕ) (j : ℕ) → slot_at j u ≡ slot_at j w → SlotFacts p ingress t w j → SlotFacts p ingress t u j
facts_same p ingress t u w j e f = record {
  cleared = λ x h m. e ∙ f.cleared x h m;
  changed = λ x h m same. f.changed x h m (sym e ∙ same);
  kept = λ none. e ∙ f.kept none;
}

-- ---- what it leaves

module _ (p : Payload) (ingress : ℕ) (t : List ℕ) (slot m : ℕ) (room : slot + m ≤ slots_of t) where
  abbrev meant : List ℕ → Bool
  meant = slot_meant every_type p ingress

  abbrev left : List ℕ
  left = on_slots (cleared_slot meant) slot m t

  fits : slot_bytes * (slot + m) ≤ length t
  fits = omega arith

  each_left : (j : ℕ) → slot ≤ j → j < slot + m → slot_at j left ≡ cleared_slot meant (slot_at j t)
  each_left j a b = slot-on_slots (cleared_slot meant) (cleared_keeps meant) t slot m j fits a b

  passed-stays : PassedStays slot m t left
  passed-stays = record {
    same_length = length-on_slots (cleared_slot meant) (cleared_keeps meant) t slot m fits;
    before = take-on_slots (cleared_slot meant) (cleared_keeps meant) t slot m fits;
    behind = drop-on_slots (cleared_slot meant) (cleared_keeps meant) t slot m fits;
  }

  count-freed : (n : ℕ) → n ≤ m → count_slots meant slot n t ≡ freed_from slot n t left
  unfolding count_slots freed_from
  count-freed zero h = refl
  count-freed (suc n) h =
      rw (
        count-freed n (omega arith),
        each_left (slot + n) (omega arith) (omega arith),
        slot_counted p ingress (slot_at (slot + n) t) (meant (slot_at (slot + n) t)) refl,
      )

  module _ (l : List ℕ) (good : table_good t ≡ true) (read : payload_of every_type l ≡ Ok p) where
    as_whole : (j : ℕ) → slot ≤ j → j < slot + m → slot_at j left ≡ slot_at j (flushed ingress l t).table
    unfolding cleared_by
    as_whole j a b = rw (flush_ran p ingress l t good read) (each_left j a b ∙ sym (slot_all_slots (cleared_slot meant) (cleared_keeps meant) t j (omega arith)))

    portion_facts : PortionFacts p ingress l slot m t left
    portion_facts = record {
      each = λ j a b. facts_same p ingress t left (flushed ingress l t).table j (as_whole j a b) ((flush_exact.flush ingress l t p good read).each j (omega arith));
      as_whole = as_whole;
      passed = passed-stays;
    }

module _ (ingress : ℕ) (l : List ℕ) (slot k : ℕ) (t : List ℕ) (p : Payload) (good : table_good t ≡ true) (some : 0 < k) (inside : slot < slots_of t) (read : payload_of every_type l ≡ Ok p) where
  exact_facts : PortionFacts p ingress l slot (portion_steps slot k (slots_of t)) t (portioned ingress l slot k t).table
  unfolding portion_by
  exact_facts =
      rw (ran ingress l slot k t good some inside p read)
      (portion_facts p ingress t slot (portion_steps slot k (slots_of t)) (steps_within slot k (slots_of t) (omega arith)) l good read)

  exact_answer : (portioned ingress l slot k t).answer
      ≡ Ok (record {
        cleared = freed_from slot (portion_steps slot k (slots_of t)) t (portioned ingress l slot k t).table;
        next = slot + portion_steps slot k (slots_of t);
        examined = portion_steps slot k (slots_of t);
      })
  unfolding portion_by
  exact_answer =
      rw (ran ingress l slot k t good some inside p read)
      (ap (λ (c : ℕ). Ok (record { cleared = c; next = slot + portion_steps slot k (slots_of t); examined = portion_steps slot k (slots_of t) }))
      (count-freed p ingress t slot (portion_steps slot k (slots_of t)) (steps_within slot k (slots_of t) (omega arith)) (portion_steps slot k (slots_of t)) (omega arith)))

pub portion_exact : PortionExact
portion_exact = record {
  steps_k = steps_k;
  steps_left = steps_left;
  facts = exact_facts;
  answer = exact_answer;
  bad_table = bad_table;
  none = λ ingress l slot t good. none ingress l slot 0 t good refl;
  past = past;
  corrupt = λ ingress l slot k t n good some inside read. corrupt ingress l slot k t good some inside n read;
}

pub portion_refusal : PortionRefusal
unfolding portioned
portion_refusal ingress l slot k t n e =
    refusal_keeps Err _ t n
    (λ a q h.
    let c = check_got _ _ _ _ q in
    let d = check_got _ _ _ _ c.1 in
    let (p, r, f) = then_got _ _ _ d.1 in
    let z : ◌≡◌ {A = ℕ} 0 1 = cc (ap (λ (x : OnTable (Outcome Portion)). x.answer) (got_got _ _ f)) in
    omega arith)
    e
