-- Laws of sorted lists, and of the search by halves.
-- Assumes nothing.
use Prim.{tt}
use Prim.Native.Nat.{ℕ, zero, suc, ◌+◌, ◌-◌, ◌*◌, ◌/◌, ◌^◌, ◌≤◌, ◌<◌}
use mathlib.Core.Bool.{Bool, true, false}
use mathlib.Core.List.{List, [], ◌∷◌}
use mathlib.Core.Path.{◌≡◌, refl}
use native.Mathlib.Nat.{mul-one, mul-zero, le_trans, lt_of_le_of_lt}
use native.Mathlib.Numerals.{add-one}
use native.Mathlib.Omega.{arith}
use lib.Dec.{leb}
use borrow.Author.Tests.{leb-true, leb-false}
use lib.ListN.{length, take, drop, get_or, drop_of_length-le}
use lib.Seq.{drop-drop}
use Rattle.numbers.specs.Tests.{pick}
use Rattle.flush_sort.specs.Sorting.{All, Sorted}
use Rattle.flush_sort.proofs.Laws.{all_at}
use Rattle.flush_buckets.specs.Buckets.{key_slots}
use Rattle.flush_intervals.specs.Hits.{Splits}

pub all_map : (P Q : ℕ → Type 0) (l : List ℕ) → ((v : ℕ) → P v → Q v) → All P l → All Q l
unfolding All
all_map P Q [] f a = tt
all_map P Q (v ∷ l) f a = (f v a.0, all_map P Q l f a.1)

-- in a sorted list one element settles all on its one side
pub sorted_below : (l : List ℕ) (m y : ℕ) → Sorted l → m < length l → get_or l m 0 < y → All (λ v. v < y) (take (suc m) l)
unfolding Sorted All
sorted_below [] m y s h lt = tt
sorted_below (v ∷ l) zero y s h lt = (lt, tt)
sorted_below (v ∷ l) (suc m) y s h lt =
    let g : m < length l = omega arith in
    (lt_of_le_of_lt (all_at (λ z. v ≤ z) l m s.0 g) lt, sorted_below l m y s.1 g lt)

pub sorted_above : (l : List ℕ) (m y : ℕ) → Sorted l → m < length l → y ≤ get_or l m 0 → All (λ v. y ≤ v) (drop m l)
unfolding Sorted All
sorted_above [] m y s h le = absurd (omega arith)
sorted_above (v ∷ l) zero y s h le = (le, all_map (λ z. v ≤ z) (λ z. y ≤ z) l (λ z g. le_trans le g) s.0)
sorted_above (v ∷ l) (suc m) y s h le = sorted_above l m y s.1 (omega arith) le

all_drop : (P : ℕ → Type 0) (l : List ℕ) (m : ℕ) → All P l → All P (drop m l)
unfolding All
all_drop P l zero a = a
all_drop P [] (suc m) a = tt
all_drop P (v ∷ l) (suc m) a = all_drop P l m a.1

add-pick : (t : Bool) (a h : ℕ) → a + pick t h 0 ≡ pick t (a + h) a
unfolding pick
add-pick true a h = refl
add-pick false a h = omega arith

-- the step by arithmetic
step_case : (t : Bool) (v z h k : ℕ) → leb (suc v) (z * key_slots) ≡ t → z < 2 ^ 52 → v < 2 ^ 64 → k ≡ (v / key_slots + 2 ^ 60 - z) / 2 ^ 60 → (h * (1 - k) ≡ pick t h 0) × (h * (1 - k) ≤ h)
unfolding pick
step_case true v z h k e a b ek =
    let lt = leb-true (suc v) (z * key_slots) e in
    let o : k ≡ 0 = omega arith in
    rw o (mul-one h, omega (arith, mul-one h))
step_case false v z h k e a b ek =
    let le = leb-false (suc v) (z * key_slots) e in
    let o : k ≡ 1 = omega arith in
    rw o (mul-zero h, omega (arith, mul-zero h))

pub step_is : (v z h k : ℕ) → z < 2 ^ 52 → v < 2 ^ 64 → k ≡ (v / key_slots + 2 ^ 60 - z) / 2 ^ 60 → (h * (1 - k) ≡ pick (leb (suc v) (z * key_slots)) h 0) × (h * (1 - k) ≤ h)
step_is v z h k a b ek = step_case (leb (suc v) (z * key_slots)) v z h k refl a b ek

-- the binary search: n from base on are still in question
pub record Bracket (l : List ℕ) (y base n : ℕ) : Type 0 where
  pub end_le : base + n ≤ length l
  pub below : All (λ v. v < y) (take base l)
  pub above : All (λ v. y ≤ v) (drop (base + n) l)

pub bracket_start : (l : List ℕ) (y : ℕ) → Bracket l y 0 (length l)
unfolding All
bracket_start l y =
    let z : 0 + length l ≡ length l = omega arith in
    record { end_le = omega arith; below = tt; above = rw (z, drop_of_length-le l {i = length l} (omega arith)) tt }

module _ (l : List ℕ) (y base n : ℕ) (b : Bracket l y base n) (s : Sorted l) where
  -- after a look at the last of the first h
  halved : (h : ℕ) → 0 < h → h + h ≤ n → (t : Bool) → leb (suc (get_or l (base + h - 1) 0)) y ≡ t → Bracket l y (pick t (base + h) base) (n - h)
  unfolding pick
  halved h p q true e =
      let lt = leb-true (suc (get_or l (base + h - 1) 0)) y e in
      let w = b.end_le in
      let c : suc (base + h - 1) ≡ base + h = omega arith in
      let d : base + h + (n - h) ≡ base + n = omega arith in
      record { end_le = omega arith; below = rw c at (sorted_below l (base + h - 1) y s (omega arith) lt); above = rw d b.above }
  halved h p q false e =
      let lt = leb-false (suc (get_or l (base + h - 1) 0)) y e in
      let w = b.end_le in
      let d : base + h - 1 + (n - h - (h - 1)) ≡ base + (n - h) = omega arith in
      let up = sorted_above l (base + h - 1) y s (omega arith) (omega arith) in
      record {
        end_le = omega arith;
        below = b.below;
        above = rw (drop-drop (n - h - (h - 1)) (base + h - 1) l, d) at (all_drop (λ v. y ≤ v) (drop (base + h - 1) l) (n - h - (h - 1)) up);
      }

  pub bracket_half : 1 < n → (r : ℕ) → r ≡ pick (leb (suc (get_or l (base + n / 2 - 1) 0)) y) (n / 2) 0 → Bracket l y (base + r) (n - n / 2)
  bracket_half go r e =
      rw (e, add-pick (leb (suc (get_or l (base + n / 2 - 1) 0)) y) base (n / 2))
      (halved (n / 2) (omega arith) (omega arith) (leb (suc (get_or l (base + n / 2 - 1) 0)) y) refl)

  last_one : (t : Bool) → leb (suc (get_or l base 0)) y ≡ t → n ≡ 1 → Splits l y (pick t (base + 1) base)
  unfolding pick
  last_one true e o =
      let lt = leb-true (suc (get_or l base 0)) y e in
      let w = b.end_le in
      record { within = omega arith; below = rw (add-one base) (sorted_below l base y s (omega arith) lt); above = rw o at b.above }
  last_one false e o =
      let lt = leb-false (suc (get_or l base 0)) y e in
      let w = b.end_le in
      record { within = omega arith; below = b.below; above = sorted_above l base y s (omega arith) (omega arith) }

  pub bracket_last : n ≡ 1 → (r : ℕ) → r ≡ pick (leb (suc (get_or l base 0)) y) 1 0 → Splits l y (base + r)
  bracket_last o r e = rw (e, add-pick (leb (suc (get_or l base 0)) y) base 1) (last_one (leb (suc (get_or l base 0)) y) refl o)
