-- The numbers of an area by their places; a number below a limit, two and three of them.
-- Assumes nothing.
use Prim.Native.Nat.{ℕ, zero, suc, ◌+◌, ◌*◌, ◌/◌, ◌<◌, ◌≤◌}
use mathlib.Core.Bool.{Bool, true, false}
use mathlib.Core.List.{List, [], ◌∷◌, map}
use mathlib.Core.Path.{◌≡◌, refl, sym, ap, ◌∙◌}
use native.Mathlib.Omega.{arith}
use native.Mathlib.Numerals.{add-one}
use lib.Dec.{leb, ltb}
use lib.ListN.{length, take, drop, get_or, length-drop, length-map}
use lib.Seq.{drop-drop, drop-cons}
use borrow.Author.Tests.{lt-ltb, le-ltb, leb-true, leb-false}
use Rattle.numbers.specs.Bytes.{num, parts}
use Rattle.numbers.specs.Result.{check, and_then}
use Rattle.numbers.proofs.Parts.{parts_end, parts_more}
use Rattle.hello.specs.Area.{take_one}
use Rattle.hello_area.specs.Entries.{via, numbers_in, end_in, reach}
use Rattle.hello_area.proofs.Places.{Suffix, suffix_one, suffix_via, reach_in, reach_over}
use Rattle.hello_ends.specs.Below.{take_below}

-- ---- the numbers of an area

parts_floor : (n : ℕ) (l : List ℕ) → 8 * n ≤ length l → length l < 8 * n + 8 → length (parts 8 l) ≡ n
parts_floor zero l h g = ap length (parts_end 8 (omega arith) l (omega arith))
parts_floor (suc n) l h g =
    let d = length-drop 8 l in
    let i = parts_floor n (drop 8 l) (omega arith) (omega arith) in
    ap length (parts_more 8 (omega arith) l (omega arith)) ∙ omega arith

pub numbers_length : (area : List ℕ) → length (numbers_in area) ≡ length area / 8
unfolding numbers_in
numbers_length area = length-map (parts 8 area) num ∙ parts_floor (length area / 8) area (omega arith) (omega arith)

number_at_lem : (i : ℕ) (area : List ℕ) → 8 * i + 8 ≤ length area → num (take 8 (drop (8 * i) area)) ≡ get_or (map num (parts 8 area)) i 0
number_at_lem zero area h = rw (parts_more 8 (omega arith) area (omega arith))
number_at_lem (suc i) area h =
    let d = length-drop 8 area in
    let e : 8 + 8 * i ≡ 8 * suc i = omega arith in
    ap (λ (n : ℕ). num (take 8 (drop n area))) (sym e)
    ∙ ap (λ (l : List ℕ). num (take 8 l)) (sym (drop-drop (8 * i) 8 area))
    ∙ number_at_lem i (drop 8 area) (omega arith)
    ∙ rw (parts_more 8 (omega arith) area (omega arith))

pub number_is : (area : List ℕ) (i : ℕ) → i < length (numbers_in area) → (r : ℕ) → r ≡ num (take 8 (drop (8 * i) area)) → r ≡ get_or (numbers_in area) i 0
unfolding numbers_in
number_is area i h r e = let n = numbers_length area in e ∙ number_at_lem i area (omega arith)

-- ---- one below a limit

one_none : (top : ℕ) (l ns : List ℕ) → length l ≤ 0 → end_in ns (take_below top l) ≡ 1 + length ns
unfolding take_below via and_then take_one
one_none top [] ns h = refl
one_none top (x ∷ l) ns h = absurd (omega arith)

pub here : (ns : List ℕ) (i : ℕ) → i < length ns → drop i ns ≡ get_or ns i 0 ∷ drop (i + 1) ns
here ns i h = rw (add-one i) (drop-cons ns i 0 h)

module _ (ns : List ℕ) (i top n : ℕ) (en : n ≡ length ns) where
  at_end : n ≤ i → (c : Bool) → leb i (length ns) ≡ c → n + 1 ≡ reach (take_below top) ns i
  at_end h true e =
      let g = leb-true i (length ns) e in
      let d = length-drop i ns in
      let a = one_none top (drop i ns) ns (omega arith) in
      let b = reach_in (take_below top) ns i g in
      omega arith
  at_end h false e = let b = reach_over (take_below top) ns i (leb-false i (length ns) e) in omega arith

  pub below_none : n ≤ i → n + 1 ≡ reach (take_below top) ns i
  below_none h = at_end h (leb i (length ns)) refl

  pub below_good : i < n → (v : ℕ) → v ≡ get_or ns i 0 → v < top → i + 1 ≡ reach (take_below top) ns i
  unfolding take_below via and_then take_one check
  below_good h v ev g =
      let d = length-drop (i + 1) ns in
      sym (reach_in (take_below top) ns i (omega arith) ∙ rw (here ns i (omega arith), ← ev, lt-ltb v top g) (omega arith))

  pub below_bad : i < n → (v : ℕ) → v ≡ get_or ns i 0 → top ≤ v → n + 1 ≡ reach (take_below top) ns i
  unfolding take_below via and_then take_one check
  below_bad h v ev g = sym (reach_in (take_below top) ns i (omega arith) ∙ rw (here ns i (omega arith), ← ev, le-ltb v top g) (omega arith))

pub suffix_below : (top : ℕ) → Suffix (take_below top)
unfolding take_below
suffix_below top = suffix_via take_one (λ n. ltb n top) (λ n. n) suffix_one
