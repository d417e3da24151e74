-- Copies into parts of an area that lie apart may change places; two pens that write in turn write two lists.
-- Assumes nothing.
use Prim.Native.Nat.{ℕ, ◌+◌, ◌-◌, ◌≤◌}
use mathlib.Core.List.{List, [], ◌∷◌, ◌++◌, flat_map, append_assoc}
use mathlib.Core.Path.{◌≡◌, refl, sym, ap, ◌∙◌}
use native.Mathlib.Omega.{arith}
use lib.ListN.{length, take, drop, length-drop, length-append}
use lib.Seq.{length-take-le, take-append-le, drop-append-le, take-append-add, drop-append-add, take-take, take-add, drop_at, drop-drop}
use Rattle.numbers.specs.After.{OnArea, on_area}
use Rattle.frame_copy.specs.Areas.{pasted}
use Rattle.frame_copy.proofs.Copying.{paste_next}
use Rattle.hello.specs.Tlvs.{Tlv}
use Rattle.hello_judge.specs.Counting.{walked}
use Rattle.hello_words.proofs.Parts.{paste_none}
use Rattle.hello_fill.specs.declared.Pens.{Pens}
use Rattle.hello_fill.specs.Filling.{put_two, filling, Room}

pub length-pasted : (o x : List ℕ) (a : ℕ) → a + length x ≤ length o → length (pasted o a x) ≡ length o
unfolding pasted
length-pasted o x a h =
    let p = length-append (take a o ++ x) (drop (a + length x) o) in
    let q = length-append (take a o) x in
    let r = length-take-le a o (omega arith) in
    let s = length-drop (a + length x) o in
    omega arith

-- ---- apart

middle : (k m : ℕ) (o : List ℕ) → k ≤ length o → drop k (take (k + m) o) ≡ take m (drop k o)
middle k m o h = ap (drop k) (take-add k m o) ∙ drop_at (take k o) (take m (drop k o)) k (length-take-le k o h)

apart_left : (o x r : List ℕ) (a k m : ℕ) → a + length x ≡ k → k + m ≤ length o → (take a (take (k + m) o ++ r) ++ x) ++ drop k (take (k + m) o ++ r) ≡ (take a o ++ x) ++ (take m (drop k o) ++ r)
apart_left o x r a k m e h =
    let n : length (take (k + m) o) ≡ k + m = length-take-le (k + m) o h in
    let p : take a (take (k + m) o ++ r) ≡ take a o = take-append-le a (take (k + m) o) r (omega arith) ∙ take-take a (k + m) o (omega arith) in
    let q : drop k (take (k + m) o ++ r) ≡ take m (drop k o) ++ r = drop-append-le k (take (k + m) o) r (omega arith) ∙ ap (λ (z : List ℕ). z ++ r) (middle k m o (omega arith)) in
    rw (p, q)

apart_right : (s o y : List ℕ) (k m : ℕ) → length s ≡ k → (take (k + m) (s ++ drop k o) ++ y) ++ drop (k + m + length y) (s ++ drop k o) ≡ s ++ (take m (drop k o) ++ (y ++ drop (k + m + length y) o))
apart_right s o y k m e =
    let p : take (k + m) (s ++ drop k o) ≡ s ++ take m (drop k o) = ap (λ (n : ℕ). take (n + m) (s ++ drop k o)) (sym e) ∙ take-append-add s (drop k o) m in
    let i : k + m + length y ≡ length s + (m + length y) = omega arith in
    let j : k + (m + length y) ≡ k + m + length y = omega arith in
    let q : drop (k + m + length y) (s ++ drop k o) ≡ drop (k + m + length y) o = ap (λ (n : ℕ). drop n (s ++ drop k o)) i ∙ drop-append-add s (drop k o) (m + length y) ∙ drop-drop (m + length y) k o ∙ ap (λ (n : ℕ). drop n o) j in
    rw (p, q) (append_assoc (s ++ take m (drop k o)) y (drop (k + m + length y) o) ∙ append_assoc s (take m (drop k o)) (y ++ drop (k + m + length y) o))

apart : (o x y : List ℕ) (a k m : ℕ) → a + length x ≡ k → k + m + length y ≤ length o → pasted (pasted o (k + m) y) a x ≡ pasted (pasted o a x) (k + m) y
unfolding pasted
apart o x y a k m e h =
    let n : length (take a o ++ x) ≡ k = length-append (take a o) x ∙ rw (length-take-le a o (omega arith)) e in
    let c : (take (k + m) o ++ y) ++ drop (k + m + length y) o ≡ take (k + m) o ++ (y ++ drop (k + m + length y) o) = append_assoc (take (k + m) o) y (drop (k + m + length y) o) in
    rw (e, c) (apart_left o x (y ++ drop (k + m + length y) o) a k m e (omega arith) ∙ sym (apart_right (take a o ++ x) o y k m n))

pub paste_apart : (o x y : List ℕ) (a b : ℕ) → a + length x ≤ b → b + length y ≤ length o → pasted (pasted o b y) a x ≡ pasted (pasted o a x) b y
paste_apart o x y a b h g =
    let e : a + length x + (b - (a + length x)) ≡ b = omega arith in
    rw (← e) (apart o x y a (a + length x) (b - (a + length x)) refl (omega arith))

-- ---- two pens

pub two_none : (s : OnArea Pens) → s ≡ put_two [] [] s
unfolding put_two
two_none s =
    let a : s.answer.first + length {A = ℕ} [] ≡ s.answer.first = omega arith in
    let b : s.answer.second + length {A = ℕ} [] ≡ s.answer.second = omega arith in
    rw (paste_none s.area s.answer.first, paste_none s.area s.answer.second, a, b)

pub two_areas : (o x y w z : List ℕ) (a b : ℕ) → a + length (x ++ w) ≤ b → b + length (y ++ z) ≤ length o
    → pasted (pasted (pasted (pasted o a x) b y) (a + length x) w) (b + length y) z ≡ pasted (pasted o a (x ++ w)) b (y ++ z)
two_areas o x y w z a b h g =
    let m = length-append x w in
    let n = length-append y z in
    let l = length-pasted o x a (omega arith) in
    let k = length-pasted o (x ++ w) a (omega arith) in
    let p : pasted (pasted (pasted o a x) b y) (a + length x) w ≡ pasted (pasted (pasted o a x) (a + length x) w) b y = paste_apart (pasted o a x) w y (a + length x) b (omega arith) (omega arith) in
    let q : pasted (pasted o a x) (a + length x) w ≡ pasted o a (x ++ w) = paste_next o x w a (a + length x) (omega arith) refl in
    rw (p, q) (paste_next (pasted o a (x ++ w)) y z b (b + length y) (omega arith) refl)

two_next : (x y w z : List ℕ) (p : Pens) (o : List ℕ) → Room (x ++ w) (y ++ z) p (length o) → put_two w z (put_two x y (on_area p o)) ≡ put_two (x ++ w) (y ++ z) (on_area p o)
unfolding put_two
two_next x y w z p o h =
    let m : p.first + length x + length w ≡ p.first + length (x ++ w) = let l = length-append x w in omega arith in
    let n : p.second + length y + length z ≡ p.second + length (y ++ z) = let l = length-append y z in omega arith in
    rw (m, n, two_areas o x y w z p.first p.second h.0 h.1)

-- lists written in turn are two lists
pub walked_two : (f g : Tlv → List ℕ) (ts : List Tlv) (p : Pens) (o : List ℕ) → Room (flat_map f ts) (flat_map g ts) p (length o) → walked (filling f g) (on_area p o) ts ≡ put_two (flat_map f ts) (flat_map g ts) (on_area p o)
unfolding walked flat_map filling put_two
walked_two f g [] p o h = two_none (on_area p o)
walked_two f g (t ∷ ts) p o h =
    let m = length-append (f t) (flat_map f ts) in
    let n = length-append (g t) (flat_map g ts) in
    let q = length-pasted o (f t) p.first (omega (arith, h.0, h.1)) in
    let r = length-pasted (pasted o p.first (f t)) (g t) p.second (omega (arith, h.0, h.1)) in
    walked_two f g ts (record { first = p.first + length (f t); second = p.second + length (g t) }) (pasted (pasted o p.first (f t)) p.second (g t)) (omega (arith, h.0, h.1), omega (arith, h.0, h.1))
    ∙ two_next (f t) (g t) (flat_map f ts) (flat_map g ts) p o h
