-- Laws of marking slots, and of filters.
-- Assumes nothing.
use Prim.Native.Nat.{ℕ, ◌+◌, ◌*◌, ◌<◌, ◌≤◌}
use mathlib.Core.Bool.{Bool, true, false}
use mathlib.Core.List.{List}
use mathlib.Core.Path.{◌≡◌, refl, sym, ap, ◌∙◌}
use native.Mathlib.Decide.{ℕ_discrete}
use native.Mathlib.Omega.{arith}
use lib.ListN.{drop}
use Rattle.numbers.specs.Tests.{both}
use Rattle.numbers.specs.Numberings.{bit_at}
use Rattle.numbers.proofs.Truth.{both_left}
use Rattle.table.specs.Slots.{slot_bytes, slots_of, slot_at}
use Rattle.table.proofs.Slots.{Local}
use Rattle.flush_bits.specs.Ranged.{Ranged}
use Rattle.flush_marks.specs.Marks.{Unmarked, NoMarks, MarkedTo, Filtered, Chosen}

both-all : (a b : Bool) → b ≡ true → both a b ≡ a
unfolding both
both-all true b e = e
both-all false b e = refl

-- a test that every slot passes changes nothing
pub filter-all : (test : List ℕ → Bool) (t before : List ℕ) → ((r : List ℕ) → test r ≡ true) → Filtered test t before before
filter-all test t before every = record { long = refl; each = λ k h. sym (both-all (bit_at k before) _ (every (slot_at k t))) }

-- ---- marking slots of a range

module _ (test : List ℕ → Bool) (near : Local test) (from : ℕ) (t : List ℕ) where
  pub mark_none : (m : List ℕ) → NoMarks m → MarkedTo test from t from m
  mark_none m e = record { long = e.long; inside = λ k a b. absurd (omega arith); below = λ k a. e.none k; above = λ k a. e.none k }

  module _ (i : ℕ) (m : List ℕ) (so_far : MarkedTo test from t i m) where
    pub mark_ends : (count : ℕ) → i ≤ from + count → from + count ≤ i → Chosen test from count t m
    mark_ends count a b = record {
      long = so_far.long;
      inside = λ k c d. so_far.inside k c (omega arith);
      below = so_far.below;
      above = λ k c d. so_far.above k (omega arith);
    }

    module _ (b : Bool) (here : b ≡ test (drop (slot_bytes * i) t)) (order : from ≤ i) where
      tells : test (slot_at i t) ≡ b
      tells = near (drop (slot_bytes * i) t) ∙ sym here

      pub mark_miss : b ≡ false → MarkedTo test from t (i + 1) m
      mark_miss miss = record {
        long = so_far.long;
        inside = λ k a c. go k a c (ℕ_discrete k i);
        below = so_far.below;
        above = λ k a. so_far.above k (omega arith);
      }
        where
          go : (k : ℕ) → from ≤ k → k < i + 1 → Dec (k ≡ i) → bit_at k m ≡ test (slot_at k t)
          go k a c (yes q) = rw q (so_far.above i (omega arith) ∙ sym (tells ∙ miss))
          go k a c (no d) = so_far.inside k a (omega arith)

      pub mark_hit : b ≡ true → (more : List ℕ) → Ranged m more i (i + 1) → MarkedTo test from t (i + 1) more
      mark_hit hit more r = record {
        long = r.long ∙ so_far.long;
        inside = λ k a c. go k a c (ℕ_discrete k i);
        below = λ k a. r.below k (omega arith) ∙ so_far.below k a;
        above = λ k a. r.above k a ∙ so_far.above k (omega arith);
      }
        where
          go : (k : ℕ) → from ≤ k → k < i + 1 → Dec (k ≡ i) → bit_at k more ≡ test (slot_at k t)
          go k a c (yes q) = rw q (r.inside i (omega arith) (omega arith) ∙ sym (tells ∙ hit))
          go k a c (no d) = r.below k (omega arith) ∙ so_far.inside k a (omega arith)

-- ---- filters in a row

-- a filter of no marks changes nothing
pub filter_unmarked : (test : List ℕ → Bool) (t m : List ℕ) → Unmarked m 0 (slots_of t) → Filtered test t m m
filter_unmarked test t m none = record {
  long = refl;
  each = λ k h. let empty : bit_at k m ≡ false = none.none k (omega arith) h in empty ∙ sym (both_left (bit_at k m) _ empty);
}

-- a filter of slots that were chosen by a test chooses by both tests
pub chosen_filtered : (p q : List ℕ → Bool) (from count : ℕ) (t m n : List ℕ) → from + count ≤ slots_of t → Chosen p from count t m → Filtered q t m n → Chosen (λ r. both (p r) (q r)) from count t n
chosen_filtered p q from count t m n room c f = record {
  long = f.long ∙ c.long;
  inside = λ k a b. f.each k (omega arith) ∙ rw (c.inside k a b);
  below = λ k a. f.each k (omega arith) ∙ both_left _ _ (c.below k a);
  above = λ k a b. f.each k b ∙ both_left _ _ (c.above k a b);
}

-- another test that says the same
pub chosen_same : (p q : List ℕ → Bool) (from count : ℕ) (t m : List ℕ) → ((r : List ℕ) → p r ≡ q r) → Chosen p from count t m → Chosen q from count t m
chosen_same p q from count t m e c = record { long = c.long; inside = λ k a b. c.inside k a b ∙ e (slot_at k t); below = c.below; above = c.above }

pub filtered_same : (p q : List ℕ → Bool) (t a b : List ℕ) → ((r : List ℕ) → p r ≡ q r) → Filtered p t a b → Filtered q t a b
filtered_same p q t a b e f = record { long = f.long; each = λ k h. f.each k h ∙ ap (both (bit_at k a)) (e (slot_at k t)) }
