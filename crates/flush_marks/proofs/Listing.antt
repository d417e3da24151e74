-- Laws of a loop over marks that lists the marked slots.
-- Assumes nothing.
use Prim.{tt}
use Prim.Native.Nat.{ℕ, ◌+◌, ◌<◌, ◌≤◌}
use mathlib.Core.Bool.{Bool, true, false}
use mathlib.Core.List.{List, [], ◌∷◌, ◌++◌}
use mathlib.Core.Path.{◌≡◌, refl, sym, ap, ◌∙◌}
use native.Mathlib.Decide.{ℕ_discrete, dec_lt}
use native.Mathlib.Nat.{add-zero}
use native.Mathlib.Numerals.{add-one}
use native.Mathlib.Omega.{arith}
use lib.Dec.{eqb}
use lib.ListN.{length, take, set, length-set}
use lib.Seq.{take-suc-set, take-set-le}
use borrow.Author.Tests.{eq-eqb, ne_eqb}
use Rattle.numbers.specs.Tests.{pick, either, any_of}
use Rattle.numbers.specs.Numberings.{bit_at}
use Rattle.numbers.proofs.Truth.{either_none}
use Rattle.flush_sort.specs.Sorting.{All}
use Rattle.flush_sort.proofs.Laws.{any_append, all_append}
use Rattle.flush_marks.specs.Marks.{Unmarked}

-- so far: the first c numbers of the list u are the marked slots before slot k
pub record ListedTo (m : List ℕ) (n : ℕ) (s : List ℕ) (k c : ℕ) (u : List ℕ) : Type 0 where
  pub long : length u ≡ length s
  pub few : c ≤ k
  pub room : c ≤ length u
  pub slots : All (λ x. x < n) (take c u)
  pub done : (j : ℕ) → j < k → any_of (eqb j) (take c u) ≡ bit_at j m
  pub rest : (j : ℕ) → k ≤ j → any_of (eqb j) (take c u) ≡ false

-- a list with one more slot
any_more : (j k : ℕ) (l : List ℕ) → any_of (eqb j) (l ++ k ∷ []) ≡ either (any_of (eqb j) l) (eqb j k)
unfolding any_of
any_more j k l = any_append (eqb j) l (k ∷ []) ∙ ap (either (any_of (eqb j) l)) (either_none (eqb j k))

all_one : (P : ℕ → Type 0) (k : ℕ) → P k → All P (k ∷ [])
unfolding All
all_one P k h = (h, tt)

module _ (m : List ℕ) (n : ℕ) (s : List ℕ) where
  pub listed_none : ListedTo m n s 0 0 s
  unfolding All any_of
  listed_none = record { long = refl; few = omega arith; room = omega arith; slots = tt; done = λ j h. absurd (omega arith); rest = λ j h. refl }

  module _ (k c : ℕ) (u : List ℕ) (so_far : ListedTo m n s k c u) where
    listed_skip : (i : ℕ) → k ≤ i → Unmarked m k i → ListedTo m n s i c u
    listed_skip i far none =
        let few = so_far.few in
        record {
          long = so_far.long;
          few = omega arith;
          room = so_far.room;
          slots = so_far.slots;
          done = λ j h. go j h (dec_lt j k);
          rest = λ j h. so_far.rest j (omega arith);
        }
      where
        go : (j : ℕ) → j < i → Dec (j < k) → any_of (eqb j) (take c u) ≡ bit_at j m
        go j h (yes l) = so_far.done j l
        go j h (no l) = so_far.rest j (omega arith) ∙ sym (none.none j (omega arith) h)

    listed_put : k < n → bit_at k m ≡ true → c < length u → ListedTo m n s (k + 1) (c + 1) (set u c k)
    unfolding either
    listed_put inside marked space =
        let few = so_far.few in
        record {
          long = length-set u c k ∙ so_far.long;
          few = omega arith;
          room = rw (length-set u c k) (omega arith);
          slots = rw more (all_append (λ x. x < n) (take c u) (k ∷ []) so_far.slots (all_one (λ x. x < n) k inside));
          done = λ j h. rw (more, any_more j k (take c u)) (go j h (ℕ_discrete j k));
          rest = λ j h. rw (more, any_more j k (take c u), so_far.rest j (omega arith)) (ne_eqb j k (λ q. omega arith));
        }
      where
        more : take (c + 1) (set u c k) ≡ take c u ++ k ∷ []
        more = rw (add-one c) (take-suc-set u c k space)

        go : (j : ℕ) → j < k + 1 → Dec (j ≡ k) → either (any_of (eqb j) (take c u)) (eqb j k) ≡ bit_at j m
        go j h (yes q) = rw (q, so_far.rest k (omega arith), marked) (eq-eqb k k refl)
        go j h (no d) = rw (ne_eqb j k d, either_none (any_of (eqb j) (take c u))) (so_far.done j (omega arith))

    listed_pass : bit_at k m ≡ false → c < length u → ListedTo m n s (k + 1) c (set u c k)
    listed_pass clear space =
        let same : take c (set u c k) ≡ take c u = take-set-le c u c k (omega arith) in
        let skip = listed_skip (k + 1) (omega arith) (record { none = λ j a b. let q : j ≡ k = omega arith in rw q clear }) in
        record {
          long = length-set u c k ∙ so_far.long;
          few = skip.few;
          room = rw (length-set u c k) so_far.room;
          slots = rw same skip.slots;
          done = λ j h. rw same (skip.done j h);
          rest = λ j h. rw same (skip.rest j h);
        }

    -- a slot is stored, and counted where it is marked
    pub listed_next : k < n → (c ≡ length u → ⊥) → (b : Bool) → b ≡ bit_at k m → (d : ℕ) → (d ≡ pick b 1 0) × (d ≤ 1) → ListedTo m n s (k + 1) (c + d) (set u c k)
    unfolding pick
    listed_next inside space b is d counted = let room = so_far.room in rw counted.0 (go b (sym is) (omega arith))
      where
        go : (b : Bool) → bit_at k m ≡ b → c < length u → ListedTo m n s (k + 1) (c + pick b 1 0) (set u c k)
        go true marked room = listed_put inside marked room
        go false clear room = rw (add-zero c) (listed_pass clear room)
