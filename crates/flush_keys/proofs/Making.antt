-- The loop that makes keys of slots: the keys made and the slots left make up the whole.
-- Assumes nothing.
use Prim.Native.Nat.{ℕ, ◌+◌, ◌*◌, ◌/◌, ◌%◌, ◌^◌, ◌<◌, ◌≤◌}
use mathlib.Core.Bool.{Bool, true, false, ◌&&◌}
use mathlib.Core.List.{List, [], ◌∷◌, ◌++◌}
use mathlib.Core.Path.{◌≡◌, refl, sym, ◌∙◌}
use native.Mathlib.Decide.{ℕ_discrete}
use native.Mathlib.Nat.{add-zero}
use native.Mathlib.Numerals.{add-one}
use native.Mathlib.Omega.{arith}
use lib.Dec.{eqb}
use lib.ListN.{length, take, drop, get_or, set}
use lib.Seq.{take-suc-set, take-set-le}
use borrow.Author.Tests.{eq-eqb, ne_eqb}
use Rattle.numbers.specs.Tests.{pick, both, either, any_of}
use Rattle.numbers.specs.Numberings.{bit_at}
use Rattle.numbers.proofs.Truth.{both_right, either_none}
use Rattle.table.specs.Slots.{slot_bytes, most_slots, slot_at}
use Rattle.flush_sort.proofs.Laws.{any_append}
use Rattle.flush_buckets.specs.Buckets.{bucket_of, HasBits, key_slots}
use Rattle.flush_keys.specs.Keys.{number_in, applies_to, InTable, keyed, KeysOf}
use Rattle.flush_keys.specs.declared.Field.{Field}
use Rattle.flush_keys.proofs.Fields.{number_near, applies_near, slot_few}
use Rattle.flush_keys.proofs.Tests.{any_none, any_next, one_done}

-- a number stored at the end of those counted, and counted where h is true
any_stored : (p : ℕ → Bool) (out : List ℕ) (n v : ℕ) (h : Bool) → n < length out → any_of p (take (n + pick h 1 0) (set out n v)) ≡ either (any_of p (take n out)) (both h (p v))
unfolding pick both any_of
any_stored p out n v true room =
    let more : take (n + 1) (set out n v) ≡ take n out ++ v ∷ [] = rw (add-one n) (take-suc-set out n v room) in
    rw (more, any_append p (take n out) (v ∷ []), either_none (p v))
any_stored p out n v false room = rw (add-zero n, take-set-le n out n v (omega arith)) (sym (either_none (any_of p (take n out))))

-- a number that passes a test has its bit
bit_needed : (a b q : Bool) → (q ≡ true → b ≡ true) → both (a && b) q ≡ both a q
unfolding both
bit_needed false b q h = refl
bit_needed true true q h = refl
bit_needed true false true h = h refl
bit_needed true false false h = refl

module _ (test : ℕ → Bool) (number : ℕ → ℕ) where
  -- what the keys are to hold of slot j
  abbrev wanted : (ℕ → Bool) → ℕ → Bool
  wanted q j = both (test j) (q (number j))

  -- so far: n keys are made, and the slots from slot i of the list on are left
  pub record Making (slots named : List ℕ) (i n : ℕ) (out : List ℕ) : Type 0 where
    pub place : i ≤ length slots
    pub few : n ≤ i
    pub each : (q : ℕ → Bool) → HasBits q named → (j : ℕ)
        → either (any_of (keyed q j) (take n out)) (both (any_of (eqb j) (drop i slots)) (wanted q j)) ≡ both (any_of (eqb j) slots) (wanted q j)

  module _ (slots named : List ℕ) where
    pub making_start : (out : List ℕ) → Making slots named 0 0 out
    unfolding any_of either
    making_start out = record { place = omega arith; few = omega arith; each = λ q h j. refl }

    module _ (i n : ℕ) (out : List ℕ) (so_far : Making slots named i n out) where
      pub making_done : length slots ≤ i → (n ≤ length slots) × KeysOf test number slots named (take n out)
      unfolding both
      making_done h =
          let f = so_far.few in
          let p = so_far.place in (
            omega arith,
            record { each = λ q has j. sym (either_none (any_of (keyed q j) (take n out))) ∙ (rw (any_none (eqb j) slots i h) at (so_far.each q has j)) },
          )

      module _ (h : i < length slots) (small : get_or slots i 0 < most_slots) (room : n < length out) (x : ℕ) (is_number : x ≡ number (get_or slots i 0)) (a b : Bool) (is-test : a ≡ test (get_or slots i 0)) (is-bit : b ≡ bit_at (bucket_of x) named) where
        abbrev s : ℕ
        s = get_or slots i 0

        key_is : (q : ℕ → Bool) (j : ℕ) → keyed q j (x * key_slots + s) ≡ both (eqb s j) (q x)
        unfolding keyed
        key_is q j =
            let low : (x * key_slots + s) % key_slots ≡ s = omega arith in
            let high : (x * key_slots + s) / key_slots ≡ x = omega arith in
            rw (low, high)

        counted : (q : ℕ → Bool) → HasBits q named → (j : ℕ) → both (a && b) (keyed q j (x * key_slots + s)) ≡ both (eqb j s) (wanted q j)
        unfolding both
        counted q has j = rw (key_is q j) (go (ℕ_discrete j s))
          where
            go : Dec (j ≡ s) → both (a && b) (both (eqb s j) (q x)) ≡ both (eqb j s) (wanted q j)
            go (yes e) = rw (e, eq-eqb s s refl, ← is-test, ← is_number) (bit_needed a b (q x) (λ p. is-bit ∙ has.each x p))
            go (no d) = rw (ne_eqb j s d, ne_eqb s j (λ e. d (sym e))) (both_right (a && b) false refl)

        pub making_next : (m : ℕ) → m ≡ pick (a && b) 1 0 → m ≤ 1 → Making slots named (i + 1) (n + m) (set out n (x * key_slots + s))
        making_next m e one =
            let f = so_far.few in
            record { place = omega arith; few = omega arith; each = λ q has j. step q has j ∙ so_far.each q has j }
          where
            step : (q : ℕ → Bool) → HasBits q named → (j : ℕ)
                → either (any_of (keyed q j) (take (n + m) (set out n (x * key_slots + s)))) (both (any_of (eqb j) (drop (i + 1) slots)) (wanted q j))
                ≡ either (any_of (keyed q j) (take n out)) (both (any_of (eqb j) (drop i slots)) (wanted q j))
            step q has j =
                rw (e, any_stored (keyed q j) out n (x * key_slots + s) (a && b) room, counted q has j, any_next (eqb j) slots i h)
                (one_done (any_of (keyed q j) (take n out)) (eqb j s) (any_of (eqb j) (drop (i + 1) slots)) (wanted q j))

-- ---- the keys of slots of a table

abbrev pub applies_at : Field → List ℕ → ℕ → Bool
applies_at f t j = applies_to f (slot_at j t)

abbrev pub number_at : Field → List ℕ → ℕ → ℕ
number_at f t j = number_in f (slot_at j t)

pub keys_next : (f : Field) (t slots named : List ℕ) → InTable t slots → (i n : ℕ) (out : List ℕ) → Making (applies_at f t) (number_at f t) slots named i n out
    → i < length slots → n < length out
    → (x : ℕ) → (x ≡ number_in f (drop (slot_bytes * get_or slots i 0) t)) × (x < 2 ^ 48)
    → (a : Bool) → a ≡ applies_to f (drop (slot_bytes * get_or slots i 0) t)
    → (b : Bool) → b ≡ bit_at (bucket_of x) named
    → (m : ℕ) → (m ≡ pick (a && b) 1 0) × (m ≤ 1)
    → Making (applies_at f t) (number_at f t) slots named (i + 1) (n + m) (set out n (x * key_slots + get_or slots i 0))
keys_next f t slots named inside i n out so_far h room x is_x a is-a b is_b m is_m =
    let l = drop (slot_bytes * get_or slots i 0) t in
    making_next (applies_at f t) (number_at f t) slots named i n out so_far h (slot_few t slots i inside h) room x (is_x.0 ∙ sym (number_near f l)) a b (is-a ∙ sym (applies_near f l)) is_b m is_m.0 is_m.1
