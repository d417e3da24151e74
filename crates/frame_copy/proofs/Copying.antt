-- The copy of a list into another, a byte at a time; copies one after the other; a copy at the start.
-- Assumes nothing.
use Prim.Native.Nat.{ℕ, ◌+◌, ◌-◌, ◌≤◌, ◌<◌}
use native.Mathlib.Omega.{arith}
use native.Mathlib.Numerals.{add-one}
use mathlib.Core.Path.{◌≡◌, refl, ap, ◌∙◌}
use mathlib.Core.Bool.{Bool, true, false}
use mathlib.Core.List.{List, ◌++◌, append_assoc}
use lib.Dec.{leb}
use lib.ListN.{length, take, drop, get_or, set, length-drop, length-append}
use native.Mathlib.Nat.{zero-add}
use lib.Seq.{take-add, take_at, drop-append-add, drop-drop, paste, paste-suc, take-length, length-take-le, get_or-set_same, get_or-set_other}
use borrow.Author.Tests.{leb-true, leb-false}
use Rattle.numbers.specs.Bytes.{laid}
use Rattle.frame_copy.specs.Areas.{pasted}

pub paste_step : (d : List ℕ) (at : ℕ) (s : List ℕ) (j : ℕ) (o : List ℕ)
    → o ≡ paste d at s j
    → at + length s ≤ length d
    → j < length s
    → set o (at + j) (get_or s j 0) ≡ paste d at s (j + 1)
paste_step d at s j o e h k = rw (e, add-one) (paste-suc d at s j 0 (omega arith) k)

pub paste_whole : (d : List ℕ) (at : ℕ) (s : List ℕ) (j : ℕ) (o : List ℕ)
    → o ≡ paste d at s j
    → j ≤ length s
    → length s ≤ j
    → o ≡ pasted d at s
unfolding pasted
paste_whole d at s j o e h k =
    let q : j ≡ length s = omega arith in
    e ∙ ap (λ (n : ℕ). paste d at s n) q ∙ ap (λ (l : List ℕ). take at d ++ l ++ drop (at + length s) d) (take-length s)

-- the bytes from an offset to a number of bytes after it
pub part_is : (f : List ℕ) (start len : ℕ) → start + len ≤ length f
    → (take (start + len - start) (drop start f) ≡ take len (drop start f)) × (length (take (start + len - start) (drop start f)) ≡ len)
part_is f start len h =
    let e : start + len - start ≡ len = omega arith in
    let l = length-drop start f in
    simp e (refl, length-take-le len (drop start f) (omega arith))

-- a copy right after the bytes that were written makes one longer copy
pub paste_next : (o w x : List ℕ) (a k : ℕ) → a ≤ length o → a + length w ≡ k → pasted (pasted o a w) k x ≡ pasted o a (w ++ x)
unfolding pasted
paste_next o w x a k h e =
    let t : List ℕ = take a o in
    let d : List ℕ = drop (a + length w) o in
    let front : length (t ++ w) ≡ k = rw (length-append, length-take-le a o h) e in
    let first : take k ((t ++ w) ++ d) ≡ t ++ w = take_at (t ++ w) d k front in
    let sum : a + length w + length x ≡ a + length (w ++ x) = rw length-append (omega arith) in
    let last : drop (k + length x) ((t ++ w) ++ d) ≡ drop (a + length (w ++ x)) o =
    rw (← front) (drop-append-add (t ++ w) d (length x))
    ∙ drop-drop (length x) (a + length w) o
    ∙ ap (λ (n : ℕ). drop n o) sum in
    rw (first, last) (simp append_assoc)

pub paste_after : (o w x : List ℕ) (k : ℕ) → length w ≡ k → pasted (pasted o 0 w) k x ≡ pasted o 0 (w ++ x)
paste_after o w x k e = paste_next o w x 0 k (omega arith) (omega arith)

-- a copy at the start of an area is what a call lays there
pub paste_laid : (o w : List ℕ) → pasted o 0 w ≡ laid w o
unfolding pasted laid
paste_laid o w = rw (zero-add (length w))

-- a part of an area that was written through
pub part_pasted : (o y : List ℕ) (at n : ℕ) → length y ≡ n → take at o ++ (y ++ drop (at + n - at) (drop at o)) ≡ pasted o at y
unfolding pasted
part_pasted o y at n e =
    let k : at + n - at ≡ length y = omega arith in
    rw (k, drop-drop (length y) at o) (simp append_assoc)

-- ---- by way of an array

-- the array has the first n bytes of the list
abbrev pub Taken : ℕ → List ℕ → List ℕ → Type 0
Taken n block s = (k : ℕ) → k < n → get_or block k 0 ≡ get_or s k 0

pub take_next : (block s : List ℕ) (i : ℕ) → i < length block → Taken i block s → Taken (i + 1) (set block i (get_or s i 0)) s
take_next block s i room t k h = go (leb i k) refl
  where
    go : (b : Bool) → leb i k ≡ b → get_or (set block i (get_or s i 0)) k 0 ≡ get_or s k 0
    go true e =
        let l = leb-true i k e in
        let same : k ≡ i = omega arith in
        rw same (get_or-set_same block i (get_or s i 0) 0 room)
    go false e =
        let l = leb-false i k e in
        get_or-set_other block i k (get_or s i 0) 0 (λ q. omega arith) ∙ t k (omega arith)

pub give_next : (d : List ℕ) (at : ℕ) (s : List ℕ) (j : ℕ) (o block : List ℕ)
    → Taken (length s) block s
    → o ≡ paste d at s j
    → at + length s ≤ length d
    → j < length s
    → set o (at + j) (get_or block j 0) ≡ paste d at s (j + 1)
give_next d at s j o block t e h k = ap (set o (at + j)) (t j k) ∙ paste_step d at s j o e h k

-- ---- in two parts

pub two_parts : (f : List ℕ) (start k len : ℕ) → k ≤ len → take len (drop start f) ≡ take k (drop start f) ++ take (len - k) (drop (start + k) f)
two_parts f start k len h =
    let e : len ≡ k + (len - k) = omega arith in
    ap (λ (n : ℕ). take n (drop start f)) e
    ∙ take-add k (len - k) (drop start f)
    ∙ ap (λ (l : List ℕ). take k (drop start f) ++ take (len - k) l) (drop-drop k start f)

pub from_two : (f out x y o₁ o₂ : List ℕ) (start k len at : ℕ)
    → k ≤ len
    → start + len ≤ length f
    → at + len ≤ length out
    → x ≡ take k (drop start f)
    → o₁ ≡ pasted out at x
    → y ≡ take (len - k) (drop (start + k) f)
    → o₂ ≡ pasted o₁ (at + k) y
    → o₂ ≡ pasted out at (take len (drop start f))
from_two f out x y o₁ o₂ start k len at h inside room ex w₁ ey w₂ =
    let d = length-drop start f in
    let l : length x ≡ k = ap length ex ∙ length-take-le k (drop start f) (omega arith) in
    rw (w₂, w₁) (paste_next out x y at (at + k) (omega arith) (omega arith) ∙ rw (ex, ey, two_parts f start k len h))
