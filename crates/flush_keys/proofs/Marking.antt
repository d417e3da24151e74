-- Loops over slots and over keys that mark slots: what is marked and what is left make up the whole.
-- Assumes nothing.
use Prim.Native.Nat.{ℕ, ◌+◌, ◌*◌, ◌/◌, ◌%◌, ◌<◌, ◌≤◌}
use mathlib.Core.Bool.{Bool, true, false, not}
use mathlib.Core.List.{List}
use mathlib.Core.Path.{◌≡◌, refl, sym, ap, ◌∙◌}
use native.Mathlib.Omega.{arith}
use lib.Dec.{eqb}
use lib.ListN.{length, drop, get_or}
use Rattle.numbers.specs.Tests.{both, either, any_of}
use Rattle.numbers.specs.Numberings.{bit_at}
use Rattle.numbers.proofs.Truth.{both_right, either_none, either_assoc}
use Rattle.table.specs.Slots.{slot_bytes, slot_at}
use Rattle.flush_buckets.specs.Buckets.{bucket_bytes, bucket_of, alone_of, key_slots}
use Rattle.flush_bits.specs.Ranged.{Widened}
use Rattle.flush_keys.specs.Keys.{applies_to, keyed, Hit, Marked, Joined}
use Rattle.flush_keys.specs.declared.Field.{Field}
use Rattle.flush_keys.specs.declared.Field.TheVariants.{Mac}
use Rattle.flush_keys.proofs.Fields.{applies_mac, applies_near}
use Rattle.flush_keys.proofs.Tests.{any_none, any_next, eqb_swap, asked_of, one_done}

-- ---- slots that pass a test

-- so far: the slots from slot i of the list on are left
pub record Joining (test : ℕ → Bool) (slots s : List ℕ) (i : ℕ) (u : List ℕ) : Type 0 where
  pub place : i ≤ length slots
  pub long : length u ≡ length s
  pub each : (j : ℕ) → either (bit_at j u) (both (any_of (eqb j) (drop i slots)) (test j)) ≡ either (bit_at j s) (both (any_of (eqb j) slots) (test j))

pub joined_none : (test : ℕ → Bool) (slots s : List ℕ) → ((j : ℕ) → test j ≡ false) → Joined test slots s s
joined_none test slots s h = record {
  long = refl;
  each = λ j. sym (ap (either (bit_at j s)) (both_right (any_of (eqb j) slots) (test j) (h j)) ∙ either_none (bit_at j s));
}

module _ (test : ℕ → Bool) (slots s : List ℕ) where
  pub joining_start : Joining test slots s 0 s
  joining_start = record { place = omega arith; long = refl; each = λ j. refl }

  module _ (i : ℕ) (u : List ℕ) (so_far : Joining test slots s i u) where
    pub joining_done : length slots ≤ i → Joined test slots s u
    unfolding both
    joining_done h = record {
      long = so_far.long;
      each = λ j. sym (either_none (bit_at j u)) ∙ (rw (any_none (eqb j) slots i h) at (so_far.each j));
    }

    pub joining_next : i < length slots → (b : Bool) → b ≡ test (get_or slots i 0) → (v : List ℕ) → Widened u v (get_or slots i 0) b → Joining test slots s (i + 1) v
    joining_next h b e v w = record {
      place = omega arith;
      long = w.long ∙ so_far.long;
      each = λ j. step j ∙ so_far.each j;
    }
      where
        step : (j : ℕ) → either (bit_at j v) (both (any_of (eqb j) (drop (i + 1) slots)) (test j)) ≡ either (bit_at j u) (both (any_of (eqb j) (drop i slots)) (test j))
        step j =
            rw (w.each j, e, asked_of j (get_or slots i 0) test, any_next (eqb j) slots i h)
            (one_done (bit_at j u) (eqb j (get_or slots i 0)) (any_of (eqb j) (drop (i + 1) slots)) (test j))

-- the slots without such a number
abbrev pub without : Field → List ℕ → ℕ → Bool
without f t j = not (applies_to f (slot_at j t))

pub without_none : (f : Field) (t slots s : List ℕ) → f ≡ Mac → Joined (without f t) slots s s
without_none f t slots s e = joined_none (without f t) slots s (λ j. ap not (sym (applies_mac f (slot_at j t) e)))

without_is : (f : Field) (t : List ℕ) (k : ℕ) (a : Bool) → a ≡ applies_to f (drop (slot_bytes * k) t) → not a ≡ without f t k
without_is f t k a e = ap not (e ∙ sym (applies_near f (drop (slot_bytes * k) t)))

without_next : (f : Field) (t slots s : List ℕ) (i : ℕ) (u : List ℕ) → Joining (without f t) slots s i u → i < length slots
    → (a : Bool) → a ≡ applies_to f (drop (slot_bytes * get_or slots i 0) t) → (v : List ℕ) → Widened u v (get_or slots i 0) (not a) → Joining (without f t) slots s (i + 1) v
without_next f t slots s i u so_far h a e v w = joining_next (without f t) slots s i u so_far h (not a) (without_is f t (get_or slots i 0) a e) v w

widened_none : (u : List ℕ) (k : ℕ) → Widened u u k false
widened_none u k = record { long = refl; each = λ j. sym (rw (both_right (eqb j k) false refl) (either_none (bit_at j u))) }

module _ (f : Field) (t slots s : List ℕ) (i : ℕ) (u : List ℕ) (so_far : Joining (without f t) slots s i u) (h : i < length slots) (a : Bool) (e : a ≡ applies_to f (drop (slot_bytes * get_or slots i 0) t)) where
  pub without_passed : a ≡ true → Joining (without f t) slots s (i + 1) u
  without_passed g = without_next f t slots s i u so_far h a e u (rw g (widened_none u (get_or slots i 0)))

  pub without_added : a ≡ false → (v : List ℕ) → Widened u v (get_or slots i 0) true → Joining (without f t) slots s (i + 1) v
  without_added g v w = without_next f t slots s i u so_far h a e v (rw g w)

-- ---- the bits of keys

-- so far: the bits of the numbers of the first i keys are set
pub record Noting (keys bits : List ℕ) (i : ℕ) : Type 0 where
  pub place : i ≤ length keys
  pub long : length bits ≡ bucket_bytes
  pub done : (k : ℕ) → k < i → (bit_at (bucket_of (get_or keys k 0 / key_slots)) bits ≡ true) × (bit_at (alone_of (get_or keys k 0 / key_slots)) bits ≡ true)

-- ---- the slots of keys

-- so far: the keys from key i on are left
pub record Collecting (keys hits s : List ℕ) (i : ℕ) (u : List ℕ) : Type 0 where
  pub place : i ≤ length keys
  pub long : length u ≡ length s
  pub each : (q : ℕ → Bool) → Hit q keys hits → (j : ℕ) → either (bit_at j u) (any_of (keyed q j) (drop i keys)) ≡ either (bit_at j s) (any_of (keyed q j) keys)

module _ (keys hits s : List ℕ) where
  module _ (i : ℕ) (u : List ℕ) (so_far : Collecting keys hits s i u) where
    pub collecting_done : length keys ≤ i → (q : ℕ → Bool) → Hit q keys hits → Marked q keys s u
    collecting_done h q hit = record {
      long = so_far.long;
      each = λ j. sym (either_none (bit_at j u)) ∙ (rw (any_none (keyed q j) keys i h) at (so_far.each q hit j));
    }

    pub collecting_next : i < length keys → (b : Bool) → b ≡ bit_at i hits → (v : List ℕ) → Widened u v (get_or keys i 0 % key_slots) b → Collecting keys hits s (i + 1) v
    unfolding keyed
    collecting_next h b e v w = record {
      place = omega arith;
      long = w.long ∙ so_far.long;
      each = λ q hit j. step q hit j ∙ so_far.each q hit j;
    }
      where
        here : (q : ℕ → Bool) → Hit q keys hits → (j : ℕ) → both (eqb j (get_or keys i 0 % key_slots)) b ≡ keyed q j (get_or keys i 0)
        here q hit j = rw (eqb_swap j (get_or keys i 0 % key_slots), e, hit.each i h)

        step : (q : ℕ → Bool) → Hit q keys hits → (j : ℕ) → either (bit_at j v) (any_of (keyed q j) (drop (i + 1) keys)) ≡ either (bit_at j u) (any_of (keyed q j) (drop i keys))
        step q hit j =
            rw (w.each j, here q hit j, any_next (keyed q j) keys i h)
            (either_assoc (bit_at j u) (keyed q j (get_or keys i 0)) (any_of (keyed q j) (drop (i + 1) keys)))
