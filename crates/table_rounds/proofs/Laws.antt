-- Laws of rounds over several slots.
-- Assumes nothing.
use Prim.Native.Nat.{ℕ, zero, suc, ◌+◌, ◌-◌, ◌*◌, ◌/◌, ◌<◌, ◌≤◌}
use mathlib.Core.Bool.{Bool, false}
use mathlib.Core.List.{List, ◌++◌}
use mathlib.Core.Path.{◌≡◌, refl, sym, ap, ◌∙◌}
use native.Mathlib.Decide.{ℕ_discrete, dec_lt}
use native.Mathlib.Nat.{zero-add, add-sub_cancel_left}
use native.Mathlib.Omega.{arith}
use lib.ListN.{length, take, drop, take-append-drop}
use Rattle.table.specs.Slots.{slot_bytes, slot_at, on_slots, first_slot}
use Rattle.table.proofs.Slots.{Local, Keeps, on_step, search_next}
use Rattle.table_rounds.specs.Rounds.{NoneOfFour, Passed}
use Rattle.std.specs.Prelude.{None}

module _ (P : List ℕ → Type 0) (t : List ℕ) where
  -- none of four
  pub passed_four : (from i at : ℕ) → at ≡ slot_bytes * i → Passed P from i t → NoneOfFour P at t → Passed P from (i + 4) t
  passed_four from i at e so_far none k low high h = go (dec_lt k i) (ℕ_discrete k i) (ℕ_discrete k (i + 1)) (ℕ_discrete k (i + 2))
    where
      here : (m : ℕ) → slot_bytes * k ≡ m → P (drop m t)
      here m f = rw f at h

      go : Dec (k < i) → Dec (k ≡ i) → Dec (k ≡ i + 1) → Dec (k ≡ i + 2) → ⊥
      go (yes l) a b c = so_far k low l h
      go (no l) (yes a) b c = none.first (here at (omega arith))
      go (no l) (no a) (yes b) c = none.second (here (at + slot_bytes) (omega arith))
      go (no l) (no a) (no b) (yes c) = none.third (here (at + 2 * slot_bytes) (omega arith))
      go (no l) (no a) (no b) (no c) = none.fourth (here (at + 3 * slot_bytes) (omega arith))

  -- round after round
  pub passed_rounds : (from to : ℕ) → ((r : ℕ) → from + 8 * r < to → (from + 8 * r + 8 ≤ to) × Passed P (from + 8 * r) (from + 8 * r + 8) t) → Passed P from to t
  passed_rounds from to each k low high = (each ((k - from) / 8) (omega arith)).1 k (omega arith) (omega arith)

-- ---- slots that a change leaves as they are are passed by

module _ (f : List ℕ → List ℕ) (keeps : Keeps f) (t u : List ℕ) (i : ℕ) (so_far : u ≡ on_slots f 0 i t) where
  pub kept_slots : (j : ℕ) → i ≤ j → slot_bytes * j ≤ length t → ((k : ℕ) → i ≤ k → k < j → slot_at k u ≡ f (slot_at k u)) → u ≡ on_slots f 0 j t
  kept_slots j h l same = let far : j - i + i ≡ j = omega arith in rw far at (go (j - i) (omega arith))
    where
      whole : (n m : ℕ) → take n u ++ (take m (drop n u) ++ drop m (drop n u)) ≡ u
      whole n m = ap (λ (y : List ℕ). take n u ++ y) (take-append-drop m (drop n u)) ∙ take-append-drop n u

      go : (d : ℕ) → d + i ≤ j → u ≡ on_slots f 0 (d + i) t
      go zero b = rw (zero-add i) so_far
      go (suc d) b =
          let k : ℕ = d + i in
          let next : suc d + i ≡ k + 1 = omega arith in
          let m : slot_bytes * k + slot_bytes - slot_bytes * k ≡ slot_bytes = add-sub_cancel_left (slot_bytes * k) slot_bytes in
          let here : take (slot_bytes * k + slot_bytes - slot_bytes * k) (drop (slot_bytes * k) u) ≡ f (take (slot_bytes * k + slot_bytes - slot_bytes * k) (drop (slot_bytes * k) u)) = rw m (same k (omega arith) (omega arith)) in
          rw next (sym (whole (slot_bytes * k) (slot_bytes * k + slot_bytes - slot_bytes * k)) ∙ on_step f keeps t 0 k k (omega arith) (omega arith) u (go d (omega arith)) _ here)

-- slots that a round excludes are passed by
pub past : (p : List ℕ → Bool) → Local p → (P : List ℕ → Type 0) → ((r : List ℕ) → (P r → ⊥) → false ≡ p r)
    → (t : List ℕ) (i j : ℕ) → i ≤ j → Passed P i j t → first_slot p i t ≡ None → first_slot p j t ≡ None
past p near P other t i j h passed so_far = let far : j - i + i ≡ j = omega arith in rw far at (go (j - i) (omega arith))
  where
    go : (d : ℕ) → d + i ≤ j → first_slot p (d + i) t ≡ None
    go zero b = rw (zero-add i) so_far
    go (suc d) b =
        let next : suc d + i ≡ d + i + 1 = omega arith in
        rw next (search_next p near t (d + i) (go d (omega arith)) false (other (drop (slot_bytes * (d + i)) t) (passed (d + i) (omega arith) (omega arith))) refl)
