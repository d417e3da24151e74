-- Laws of bits: of a sum of bits, of a byte with some of them, and of numbers added to a set.
-- Assumes nothing.
use Prim.Native.Nat.{ℕ, zero, suc, ◌+◌, ◌-◌, ◌*◌, ◌/◌, ◌%◌, ◌^◌, ◌≤◌, ◌<◌, max}
use mathlib.Core.Bool.{Bool, true, false}
use mathlib.Core.List.{List, ◌++◌}
use mathlib.Core.Logic.{◌⊎◌, inl, inr}
use mathlib.Core.Path.{◌≡◌, refl, sym, ap, ◌∙◌}
use native.Mathlib.Decide.{ℕ_discrete}
use native.Mathlib.Nat.{mod-lt, zero-div}
use native.Mathlib.Omega.{arith}
use lib.Bits.{bit_or, or_shr, or_step}
use lib.Dec.{leb, eqb}
use lib.ListN.{length, take, drop, get_or, set, replicate, length-set, length-append, length-drop, get_or-append}
use lib.Seq.{get_or-set_same, get_or-set_other, length-take-le}
use Rattle.std.proofs.lemmas.List.{get_or-take, get_or-drop, get_or-append_right, get_or-replicate, length-replicate}
use borrow.Author.Tests.{le-leb, lt-leb, leb-true, leb-false, eqb-true}
use Rattle.numbers.specs.Tests.{both, either}
use Rattle.numbers.specs.Numberings.{bit_of, bit_at}
use Rattle.numbers.proofs.Bytes.{length_part}
use Rattle.numbers.proofs.Truth.{both_true, both_right, either_none, either-all}
use Rattle.flush_bits.specs.Ranged.{mask_of, Ranged}

-- ---- a rule that is computed for every number below a bound

abbrev pub every : ℕ → (ℕ → Bool) → Bool
every zero p = true
every (suc n) p = both (p n) (every n p)

pub every_at : (n : ℕ) (p : ℕ → Bool) → every n p ≡ true → (k : ℕ) → k < n → p k ≡ true
every_at zero p e k h = absurd (omega arith)
every_at (suc n) p e k h = go (λ l. every_at n p (both_true (p n) (every n p) e).1 k l) (ℕ_discrete k n)
  where
    go : (k < n → p k ≡ true) → Dec (k ≡ n) → p k ≡ true
    go f (yes q) = rw q (both_true (p n) (every n p) e).0
    go f (no d) = f (omega arith)

abbrev pub alike : Bool → Bool → Bool
alike true b = b
alike false true = false
alike false false = true

pub alike_same : (a b : Bool) → alike a b ≡ true → a ≡ b
alike_same true true e = refl
alike_same true false e = sym e
alike_same false true e = e
alike_same false false e = refl

-- ---- the bits of two bytes together

max_digit : (x y : ℕ) → x < 2 → y < 2 → eqb (max x y) 1 ≡ either (eqb x 1) (eqb y 1)
unfolding either
max_digit zero zero h g = refl
max_digit zero (suc zero) h g = refl
max_digit zero (suc (suc y)) h g = absurd (omega arith)
max_digit (suc zero) zero h g = refl
max_digit (suc zero) (suc zero) h g = refl
max_digit (suc zero) (suc (suc y)) h g = absurd (omega arith)
max_digit (suc (suc x)) y h g = absurd (omega arith)

or_odd : (a b : ℕ) → bit_or a b % 2 ≡ max (a % 2) (b % 2)
or_odd a b =
    let s = or_step a b in
    let m : max (a % 2) (b % 2) < 2 = few (a % 2) (b % 2) (mod-lt a (omega arith)) (mod-lt b (omega arith)) in
    omega arith
  where
    few : (x y : ℕ) → x < 2 → y < 2 → max x y < 2
    few zero zero h g = h
    few zero (suc zero) h g = g
    few zero (suc (suc y)) h g = absurd (omega arith)
    few (suc zero) zero h g = h
    few (suc zero) (suc zero) h g = h
    few (suc zero) (suc (suc y)) h g = absurd (omega arith)
    few (suc (suc x)) y h g = absurd (omega arith)

pub or_bit : (a b k : ℕ) → bit_of (bit_or a b) k ≡ either (bit_of a k) (bit_of b k)
unfolding bit_of
or_bit a b k =
    ap (λ (n : ℕ). eqb (n % 2) 1) (or_shr a b (7 - k))
    ∙ ap (λ (n : ℕ). eqb n 1) (or_odd (a / 2 ^ (7 - k)) (b / 2 ^ (7 - k)))
    ∙ max_digit (a / 2 ^ (7 - k) % 2) (b / 2 ^ (7 - k) % 2) (mod-lt _ (omega arith)) (mod-lt _ (omega arith))

-- ---- a byte with the bits from i to before j

abbrev mask_rule : ℕ → ℕ → ℕ → Bool
mask_rule i j k = alike (bit_of (mask_of i j) k) (both (leb i k) (leb (suc k) j))

masks : every 8 (λ i. every 9 (λ j. every 8 (mask_rule i j))) ≡ true
unfolding bit_of mask_of both
masks = refl

abbrev size_rule : ℕ → ℕ → Bool
size_rule i j = either (leb (suc j) i) (both (leb (256 / 2 ^ j) (256 / 2 ^ i)) (leb (mask_of i j) 255))

sizes : every 8 (λ i. every 9 (size_rule i)) ≡ true
unfolding mask_of both either
sizes = refl

module _ (i j : ℕ) (hi : i < 8) (hj : j ≤ 8) where
  pub mask_bit : (k : ℕ) → k < 8 → bit_of (mask_of i j) k ≡ both (leb i k) (leb (suc k) j)
  mask_bit k h =
      let a = every_at 8 (λ i. every 9 (λ j. every 8 (mask_rule i j))) masks i hi in
      let b = every_at 9 (λ j. every 8 (mask_rule i j)) a j (omega arith) in
      alike_same (bit_of (mask_of i j) k) (both (leb i k) (leb (suc k) j)) (every_at 8 (mask_rule i j) b k h)

  mask_size : i ≤ j → (256 / 2 ^ j ≤ 256 / 2 ^ i) × (mask_of i j ≤ 255)
  unfolding either
  mask_size h =
      let e = every_at 9 (size_rule i) (every_at 8 (λ i. every 9 (size_rule i)) sizes i hi) j (omega arith) in
      let p = both_true (leb (256 / 2 ^ j) (256 / 2 ^ i)) (leb (mask_of i j) 255) (rw (lt-leb (suc j) i (omega arith)) at e) in
      (leb-true _ _ p.0, leb-true _ _ p.1)

  pub mask_sub : i ≤ j → 256 / 2 ^ j ≤ 256 / 2 ^ i
  mask_sub h = (mask_size h).0

  pub mask_byte : i ≤ j → 256 / 2 ^ i - 256 / 2 ^ j ≤ 255
  unfolding mask_of
  mask_byte h = (mask_size h).1

-- ---- a set of which one byte is another

module _ (s : List ℕ) (i y x : ℕ) where
  pub byte_same : i < length s → x / 8 ≡ i → bit_at x (set s i y) ≡ bit_of y (x % 8)
  unfolding bit_at
  byte_same h e = rw e (ap (λ (n : ℕ). bit_of n (x % 8)) (get_or-set_same s i y 0 h))

  pub byte_other : (x / 8 ≡ i → ⊥) → bit_at x (set s i y) ≡ bit_at x s
  unfolding bit_at
  byte_other d = ap (λ (n : ℕ). bit_of n (x % 8)) (get_or-set_other s i (x / 8) y 0 d)

pub byte_none : (s : List ℕ) (i : ℕ) → eqb (get_or s i 0) 0 ≡ true → (x : ℕ) → i ≡ x / 8 → bit_at x s ≡ false
unfolding bit_at bit_of
byte_none s i h x e = rw (← e, eqb-true (get_or s i 0) 0 h, zero-div)

-- bits added to a byte
module _ (s : List ℕ) (i m : ℕ) (h : i < length s) (x : ℕ) where
  pub added_same : x / 8 ≡ i → bit_at x (set s i (bit_or (get_or s i 0) m)) ≡ either (bit_at x s) (bit_of m (x % 8))
  unfolding bit_at
  added_same e = byte_same s i _ x h e ∙ or_bit (get_or s i 0) m (x % 8) ∙ rw e

-- ---- numbers added

pub range_none : (s : List ℕ) (first : ℕ) → Ranged s s first first
range_none s first = record { long = refl; below = λ x h. refl; inside = λ x h g. absurd (omega arith); above = λ x h. refl }

pub range_join : (s t u : List ℕ) (a b c : ℕ) → a ≤ b → b ≤ c → Ranged s t a b → Ranged t u b c → Ranged s u a c
range_join s t u a b c h g p q = record {
  long = q.long ∙ p.long;
  below = λ x k. q.below x (omega arith) ∙ p.below x k;
  inside = λ x k l. go x k l (leb b x) refl;
  above = λ x k. q.above x k ∙ p.above x (omega arith);
}
  where
    go : (x : ℕ) → a ≤ x → x < c → (d : Bool) → leb b x ≡ d → bit_at x u ≡ true
    go x k l true e = q.inside x (leb-true b x e) l
    go x k l false e = let n = leb-false b x e in q.below x (omega arith) ∙ p.inside x k (omega arith)

-- whole bytes
full : every 8 (bit_of 255) ≡ true
unfolding bit_of both
full = refl

byte_kept : (s t : List ℕ) (x : ℕ) → get_or t (x / 8) 0 ≡ get_or s (x / 8) 0 → bit_at x t ≡ bit_at x s
unfolding bit_at
byte_kept s t x e = ap (λ (n : ℕ). bit_of n (x % 8)) e

byte_full : (t : List ℕ) (x : ℕ) → get_or t (x / 8) 0 ≡ 255 → bit_at x t ≡ true
unfolding bit_at
byte_full t x e = ap (λ (n : ℕ). bit_of n (x % 8)) e ∙ every_at 8 (bit_of 255) full (x % 8) (omega arith)

module _ (s m : List ℕ) (a b : ℕ) (h : a ≤ b) (g : b ≤ length s) (e : m ≡ replicate (length (take (b - a) (drop a s))) 255) where
  abbrev back : List ℕ
  back = drop (b - a) (drop a s)

  full_part : m ≡ replicate (b - a) 255
  full_part = rw (length_part s a (b - a) (omega arith)) at e

  front_long : length (take a s) ≡ a
  front_long = length-take-le a s (omega arith)

  middle_long : length m ≡ b - a
  middle_long = ap length full_part ∙ length-replicate (b - a) 255

  front_byte : (k : ℕ) → k < a → get_or (take a s ++ (m ++ back)) k 0 ≡ get_or s k 0
  front_byte k l = let f = front_long in get_or-append (take a s) (m ++ back) 0 k (omega arith) ∙ get_or-take a s k 0 l

  middle_byte : (k : ℕ) → a ≤ k → k < b → get_or (take a s ++ (m ++ back)) k 0 ≡ 255
  middle_byte k l u =
      let n = middle_long in
      get_or-append_right (take a s) (m ++ back) a k 0 front_long l
      ∙ get_or-append m back 0 (k - a) (omega arith)
      ∙ rw full_part (get_or-replicate (b - a) (k - a) 255 0 (omega arith))

  back_byte : (k : ℕ) → b ≤ k → get_or (take a s ++ (m ++ back)) k 0 ≡ get_or s k 0
  back_byte k l =
      let same : a + (b - a + (k - a - (b - a))) ≡ k = omega arith in
      get_or-append_right (take a s) (m ++ back) a k 0 front_long (omega arith)
      ∙ get_or-append_right m back (b - a) (k - a) 0 middle_long (omega arith)
      ∙ get_or-drop (b - a) (drop a s) (k - a - (b - a)) 0
      ∙ get_or-drop a s (b - a + (k - a - (b - a))) 0
      ∙ ap (λ (n : ℕ). get_or s n 0) same

  pub filled : Ranged s (take a s ++ (m ++ back)) (8 * a) (8 * b)
  filled = record {
    long = simp (length-append, length-drop) (let f = front_long in let n = middle_long in omega arith);
    below = λ x k. byte_kept s _ x (front_byte (x / 8) (omega arith));
    inside = λ x k l. byte_full _ x (middle_byte (x / 8) (omega arith) (omega arith));
    above = λ x k. byte_kept s _ x (back_byte (x / 8) (omega arith));
  }

-- a part of a byte
module _ (s : List ℕ) (first past : ℕ) (some : first ≤ past) (room : first < 8 * length s) (near : past ≤ first / 8 * 8 + 8) where
  abbrev i : ℕ
  i = first / 8

  abbrev m : ℕ
  m = mask_of (first % 8) (past - first / 8 * 8)

  in_byte_lem : (x : ℕ) → x / 8 ≡ i → bit_at x (set s i (bit_or (get_or s i 0) m)) ≡ either (bit_at x s) (both (leb (first % 8) (x % 8)) (leb (suc (x % 8)) (past - first / 8 * 8)))
  in_byte_lem x e =
      added_same s i m (omega arith) x e
      ∙ ap (either (bit_at x s)) (mask_bit (first % 8) (past - first / 8 * 8) (omega arith) (omega arith) (x % 8) (omega arith))

  at_byte : (x : ℕ) → Dec (x / 8 ≡ i) → (x < first ⊎ past ≤ x) → bit_at x (set s i (bit_or (get_or s i 0) m)) ≡ bit_at x s
  unfolding both
  at_byte x (no d) o = byte_other s i _ x d
  at_byte x (yes e) (inl l) = in_byte_lem x e ∙ rw (lt-leb (first % 8) (x % 8) (omega arith)) (either_none (bit_at x s))
  at_byte x (yes e) (inr g) = in_byte_lem x e ∙ ap (either (bit_at x s)) (both_right (leb (first % 8) (x % 8)) _ (lt-leb (suc (x % 8)) (past - first / 8 * 8) (omega arith))) ∙ either_none (bit_at x s)

  part_ranged : Ranged s (set s i (bit_or (get_or s i 0) m)) first past
  unfolding both
  part_ranged = record {
    long = length-set s i _;
    below = λ x k. at_byte x (ℕ_discrete (x / 8) i) (inl k);
    inside = λ x k l.
        in_byte_lem x (omega arith)
        ∙ rw (le-leb (first % 8) (x % 8) (omega arith), le-leb (suc (x % 8)) (past - first / 8 * 8) (omega arith)) (either-all (bit_at x s));
    above = λ x k. at_byte x (ℕ_discrete (x / 8) i) (inr k);
  }

  pub part_added : (b : ℕ) → b ≡ mask_of (first % 8) (past - first / 8 * 8) → (t : List ℕ) → t ≡ set s (first / 8) (bit_or (get_or s (first / 8) 0) b) → Ranged s t first past
  part_added b e t f = rw (f, e) part_ranged

-- numbers of more than one byte
pub range_bytes : (s t u v : List ℕ) (first past : ℕ) → first ≤ past → (first / 8 ≡ past / 8 → ⊥)
    → Ranged s t first (first / 8 * 8 + 8) → Ranged t u (8 * (first / 8 + 1)) (8 * (past / 8)) → Ranged u v (past / 8 * 8) past → Ranged s v first past
range_bytes s t u v first past h d p q r =
    let a : first / 8 * 8 + 8 ≡ 8 * (first / 8 + 1) = omega arith in
    let b : past / 8 * 8 ≡ 8 * (past / 8) = omega arith in
    let f : Ranged s u first (8 * (past / 8)) = range_join s t u first (8 * (first / 8 + 1)) (8 * (past / 8)) (omega arith) (omega arith) (rw a at p) q in
    range_join s u v first (8 * (past / 8)) past (omega arith) (omega arith) f (rw b at r)

-- what is in the set then
pub range_tells : (s t : List ℕ) (first past : ℕ) → Ranged s t first past → (x : ℕ) → bit_at x t ≡ either (bit_at x s) (both (leb first x) (leb (suc x) past))
unfolding both
range_tells s t first past r x = go (leb first x) (leb (suc x) past) refl refl
  where
    go : (a b : Bool) → leb first x ≡ a → leb (suc x) past ≡ b → bit_at x t ≡ either (bit_at x s) (both a b)
    go false b e f = let n = leb-false first x e in r.below x (omega arith) ∙ sym (either_none (bit_at x s))
    go true false e f = let n = leb-false (suc x) past f in r.above x (omega arith) ∙ sym (either_none (bit_at x s))
    go true true e f = r.inside x (leb-true first x e) (leb-true (suc x) past f) ∙ sym (either-all (bit_at x s))
