-- One pass sees what the definition of learning asks, slots without the pair add nothing to it, and where it counts one record there is
-- no other.
-- Assumes nothing.
use Prim.Native.Nat.{ℕ, zero, suc, ◌+◌, ◌<◌, ◌≤◌}
use mathlib.Core.Bool.{Bool, true, false}
use mathlib.Core.List.{List}
use mathlib.Core.Path.{◌≡◌, refl, sym, ap, ◌∙◌}
use native.Mathlib.Decide.{ℕ_discrete}
use native.Mathlib.Nat.{zero-add, suc-add, add-zero}
use native.Mathlib.Omega.{arith}
use Rattle.numbers.specs.Tests.{pick, both, either}
use Rattle.numbers.proofs.Truth.{either_none}
use Rattle.table.specs.Record.{unpacked, entry_matches, unmarked_matches, marked_matches, learned_that, configured_that, slot_that}
use Rattle.table.specs.Slots.{slots_of, slot_at, count_slots, or_else, found, first_slot}
use Rattle.table.specs.Table.{holds, holds_configured, holds_unmarked, holds_marked}
use Rattle.table.specs.declared.Entry.{Entry}
use Rattle.table.specs.declared.Slot.{Slot}
use Rattle.table.specs.declared.Slot.TheVariants.{Free, Spoilt, Learned, Configured}
use Rattle.table.proofs.Apart.{OnlyAt}
use Rattle.table_homes.specs.Pass.{no_homes, with_slot, homes_to}
use Rattle.table_homes.specs.declared.Homes.{Homes}
use Rattle.std.specs.Prelude.{Option, Some, None}

found_or : (p : Option ℕ) (b : Bool) (n : ℕ) → either (found p) b ≡ found (or_else p (pick b (Some n) None))
unfolding either pick
found_or (Some k) b n = refl
found_or None true n = refl
found_or None false n = refl

module _ (e : Entry) (t : List ℕ) where
  -- each part is what the definition asks
  pub seen-configured : (n : ℕ) → (homes_to e n t).configured ≡ found (first_slot (holds_configured e.label e.mac) n t)
  unfolding homes_to no_homes with_slot first_slot holds_configured
  seen-configured zero = refl
  seen-configured (suc n) =
      ap (λ (b : Bool). either b (configured_that (entry_matches e.label e.mac) (unpacked (slot_at n t)))) (seen-configured n)
      ∙ found_or (first_slot (holds_configured e.label e.mac) n t) _ n

  pub seen_unmarked : (n : ℕ) → (homes_to e n t).unmarked ≡ first_slot (holds_unmarked e.label e.mac) n t
  unfolding homes_to no_homes with_slot first_slot holds_unmarked
  seen_unmarked zero = refl
  seen_unmarked (suc n) = rw (seen_unmarked n)

  pub seen_marked : (n : ℕ) → (homes_to e n t).marked ≡ first_slot (holds_marked e.label e.mac e.nickname) n t
  unfolding homes_to no_homes with_slot first_slot holds_marked
  seen_marked zero = refl
  seen_marked (suc n) = rw (seen_marked n)

  pub seen-lowest : (n : ℕ) → (homes_to e n t).lowest ≡ first_slot (holds e.label e.mac) n t
  unfolding homes_to no_homes with_slot first_slot holds
  seen-lowest zero = refl
  seen-lowest (suc n) = rw (seen-lowest n)

  pub seen-count : (n : ℕ) → (homes_to e n t).count ≡ count_slots (holds e.label e.mac) 0 n t
  unfolding homes_to no_homes with_slot count_slots holds
  seen-count zero = refl
  seen-count (suc n) = rw (zero-add n, seen-count n)

-- ---- slots without the pair

or_nowhere : (p : Option ℕ) → or_else p None ≡ p
or_nowhere (Some k) = refl
or_nowhere None = refl

-- a slot that does not hold the pair passes none of the tests
module _ (e : Entry) where
  record Passes (s : Slot) : Type 0 where
    configured : configured_that (entry_matches e.label e.mac) s ≡ false
    unmarked : learned_that (unmarked_matches e.label e.mac) s ≡ false
    marked : learned_that (marked_matches e.label e.mac e.nickname) s ≡ false

  passes_none : (s : Slot) → slot_that (entry_matches e.label e.mac) s ≡ false → Passes s
  unfolding both
  passes_none Free h = record { configured = refl; unmarked = refl; marked = refl }
  passes_none Spoilt h = record { configured = refl; unmarked = refl; marked = refl }
  passes_none (Learned o) h = record { configured = refl; unmarked = rw h; marked = rw h }
  passes_none (Configured o) h = record { configured = h; unmarked = refl; marked = refl }

  pub slot_skipped : (k : ℕ) (s : Slot) (h : Homes) → slot_that (entry_matches e.label e.mac) s ≡ false → with_slot e k s h ≡ h
  unfolding with_slot pick
  slot_skipped k s h none =
      let p = passes_none s none in
      rw (p.configured, p.unmarked, p.marked, none)
      (λ i. record {
        configured = either_none h.configured i;
        unmarked = or_nowhere h.unmarked i;
        marked = or_nowhere h.marked i;
        lowest = or_nowhere h.lowest i;
        count = add-zero h.count i;
      })

  -- so a search for the pair may pass over them
  pub seen_skip : (t : List ℕ) (i m : ℕ) → ((j : ℕ) → i ≤ j → j < m + i → holds e.label e.mac (slot_at j t) ≡ false) → homes_to e (m + i) t ≡ homes_to e i t
  unfolding homes_to holds
  seen_skip t i zero none = rw (zero-add i)
  seen_skip t i (suc m) none =
      rw (suc-add m i)
      (slot_skipped (m + i) (unpacked (slot_at (m + i) t)) (homes_to e (m + i) t) (none (m + i) (omega arith) (omega arith))
      ∙ seen_skip t i m (λ j a b. none j a (omega arith)))

-- ---- a pair with one record

module _ (p : List ℕ → Bool) (t : List ℕ) where
  count_some : (n j : ℕ) → j < n → p (slot_at j t) ≡ true → 1 ≤ count_slots p 0 n t
  unfolding count_slots pick
  count_some zero j b h = absurd (omega arith)
  count_some (suc n) j b h = go (ℕ_discrete j n) (count_some n j)
    where
      go : Dec (j ≡ n) → (j < n → p (slot_at j t) ≡ true → 1 ≤ count_slots p 0 n t) → 1 ≤ count_slots p 0 n t + pick (p (slot_at (0 + n) t)) 1 0
      go (yes e) ih = rw (zero-add n, ← e, h) (omega arith)
      go (no d) ih = let one = ih (omega arith) h in omega arith

  count-one : (n i j : ℕ) → i < n → j < n → p (slot_at i t) ≡ true → p (slot_at j t) ≡ true → count_slots p 0 n t ≤ 1 → i ≡ j
  unfolding count_slots pick
  count-one zero i j a b hi hj c = absurd (omega arith)
  count-one (suc n) i j a b hi hj c = go (ℕ_discrete i n) (ℕ_discrete j n) (λ x y. count-one n i j x y hi hj (omega arith))
    where
      last : (x y : ℕ) → x ≡ n → (y ≡ n → ⊥) → y < suc n → p (slot_at x t) ≡ true → p (slot_at y t) ≡ true → ⊥
      last x y e d l hx hy =
          let some = count_some n y (omega arith) hy in
          let here : p (slot_at n t) ≡ true = rw e at hx in
          let more : count_slots p 0 n t + 1 ≤ 1 = rw (zero-add n, here) at c in
          omega arith

      go : Dec (i ≡ n) → Dec (j ≡ n) → (i < n → j < n → i ≡ j) → i ≡ j
      go (yes x) (yes y) ih = x ∙ sym y
      go (yes x) (no y) ih = absurd (last i j x y b hi hj)
      go (no x) (yes y) ih = absurd (last j i y x a hj hi)
      go (no x) (no y) ih = ih (omega arith) (omega arith)

module _ (e : Entry) (t : List ℕ) where
  pub seen_once : (homes_to e (slots_of t) t).count ≤ 1 → (k : ℕ) → k < slots_of t → holds e.label e.mac (slot_at k t) ≡ true → OnlyAt k (holds e.label e.mac) t
  seen_once c k within h j b q =
      count-one (holds e.label e.mac) t (slots_of t) j k b within q h (rw (seen-count e t (slots_of t)) at c)
