-- Laws of filter bits: what a range of bits adds, and what a bit that is not set says.
-- Assumes nothing.
use Prim.Native.Nat.{ℕ, suc, ◌+◌, ◌-◌, ◌/◌, ◌%◌, ◌≤◌, ◌<◌}
use mathlib.Core.Bool.{Bool, true, false, ◌||◌}
use mathlib.Core.List.{List}
use mathlib.Core.Path.{◌≡◌, refl, sym, ap, ◌∙◌}
use native.Mathlib.Decide.{dec_lt}
use native.Mathlib.Omega.{arith}
use lib.Dec.{leb}
use borrow.Author.Tests.{leb-true}
use Rattle.numbers.specs.Tests.{both}
use Rattle.numbers.proofs.Truth.{both_true, false_true}
use Rattle.numbers.specs.Numberings.{bit_at}
use Rattle.flush_bits.specs.Ranged.{Ranged}
use Rattle.flush_buckets.specs.Buckets.{bucket_of, alone_of, Keeps, Added, Names}

-- ---- a range of bits

pub keeps_none : (s : List ℕ) → Keeps s s
keeps_none s = record { long = refl; kept = λ y h. h }

keeps_range : (s t : List ℕ) (i j : ℕ) → Ranged s t i j → Keeps s t
keeps_range s t i j r = record { long = r.long; kept = λ y h. go y h (dec_lt y i) (dec_lt y j) }
  where
    go : (y : ℕ) → bit_at y s ≡ true → Dec (y < i) → Dec (y < j) → bit_at y t ≡ true
    go y h (yes a) b = r.below y a ∙ h
    go y h (no a) (yes b) = r.inside y (omega arith) b
    go y h (no a) (no b) = r.above y (omega arith) ∙ h

pub adds_none : (s e : ℕ) (t : List ℕ) → e ≤ s → Keeps t t × (true ≡ true → Added s e t)
adds_none s e t h = (keeps_none t, λ q x a b. absurd (omega arith))

pub too_many : (s e : ℕ) (t : List ℕ) → Keeps t t × (false ≡ true → Added s e t)
too_many s e t = (keeps_none t, λ q x a b. collapse (bit_at (bucket_of x) t) q)
  where
    collapse : (b : Bool) → false ≡ true → b ≡ true
    collapse true q = refl
    collapse false q = q

-- numbers of a short range lie between the buckets of its first and its last
between_buckets : (s l x : ℕ) → s ≤ x → x ≤ l → l < 16384 + s → s / 256 % 65536 ≤ l / 256 % 65536 → (s / 256 % 65536 ≤ x / 256 % 65536) × (x / 256 % 65536 ≤ l / 256 % 65536)
between_buckets s l x a b c d = (omega arith, omega arith)

pub adds_range : (s e : ℕ) (t u : List ℕ) (i j : ℕ) → s < e → e - 1 < 16384 + s → i ≡ bucket_of s → j ≡ bucket_of (e - 1) → i ≤ j → Ranged t u i (j + 1) → Keeps t u × (true ≡ true → Added s e u)
unfolding bucket_of
adds_range s e t u i j some few ei ej h r = (
  keeps_range t u i (j + 1) r,
  λ q x a b.
      let p = between_buckets s (e - 1) x a (omega arith) few (omega arith) in
      r.inside (x / 256 % 65536) (omega arith) (omega arith),
)

pub adds_one : (s e : ℕ) (t u : List ℕ) (i j : ℕ) → s < e → e - 1 < 16384 + s → i ≡ bucket_of s → j ≡ bucket_of (e - 1) → i ≡ j → Ranged t u i (i + 1) → Keeps t u × (true ≡ true → Added s e u)
adds_one s e t u i j some few ei ej same r = adds_range s e t u i j some few ei ej (omega arith) (rw (← same) r)

pub adds_bit : (h : ℕ) (t u : List ℕ) → Ranged t u (h % 65536) (h % 65536 + 1) → Keeps t u × (bit_at (h % 65536) u ≡ true)
adds_bit h t u r = (keeps_range t u _ _ r, r.inside (h % 65536) (omega arith) (omega arith))

pub adds_all : (t u : List ℕ) → Ranged t u 0 65536 → Keeps t u × ((s e : ℕ) → Added s e u)
unfolding bucket_of
adds_all t u r = (keeps_range t u 0 65536 r, λ s e x a b. r.inside (x / 256 % 65536) (omega arith) (omega arith))

pub keeps_twice : (s t u : List ℕ) → Keeps s t → Keeps t u → Keeps s u
keeps_twice s t u a b = record { long = b.long ∙ a.long; kept = λ y h. b.kept y (a.kept y h) }

-- ---- the test

pub bit_tested : (x k : ℕ) (t : List ℕ) (b : Bool) → k ≡ bucket_of x → b ≡ bit_at k t → b ≡ bit_at (bucket_of x) t
bit_tested x k t b e q = q ∙ ap (λ (n : ℕ). bit_at n t) e

pub alone_tested : (x : ℕ) (t : List ℕ) (b : Bool) → b ≡ bit_at (x % 65536) t → b ≡ bit_at (alone_of x) t
unfolding alone_of
alone_tested x t b q = q

-- a short range lies in the buckets of its first and its last number
pub not_met : (s e : ℕ) (t : List ℕ) → s < e → e - 1 - s < 256 → (a b : Bool) → a ≡ bit_at (bucket_of s) t → b ≡ bit_at (bucket_of (e - 1)) t → (a || b) ≡ false → (x : ℕ) → s ≤ x → x < e → bit_at (bucket_of x) t ≡ false
unfolding bucket_of
not_met s e t some few a b ea eb none x h g = go (dec_lt (s / 256) (x / 256)) a ea b eb none
  where
    never : (b : Bool) → true ≡ false → b ≡ false
    never true q = q
    never false q = refl

    go : Dec (s / 256 < x / 256) → (a : Bool) → a ≡ bit_at (s / 256 % 65536) t → (b : Bool) → b ≡ bit_at ((e - 1) / 256 % 65536) t → (a || b) ≡ false → bit_at (x / 256 % 65536) t ≡ false
    go d true ea b eb none = never (bit_at (x / 256 % 65536) t) none
    go (yes l) false ea b eb none = let same : x / 256 ≡ (e - 1) / 256 = omega arith in rw same (sym eb ∙ none)
    go (no l) false ea b eb none = let same : x / 256 ≡ s / 256 = omega arith in rw same (sym ea)

-- ---- few numbers, or all

pub names_few : (s e : ℕ) (t u : List ℕ) (r : Bool) → Keeps t u × (r ≡ true → Added s e u) → r ≡ true → Names (λ x. both (leb s x) (leb (suc x) e)) t u false
names_few s e t u r g h = record {
  keeps = g.0;
  each = λ x q. let p = both_true (leb s x) (leb (suc x) e) q in g.1 h x (leb-true s x p.0) (leb-true (suc x) e p.1);
  all = λ q. false_true q;
}

pub names_all : (q : ℕ → Bool) (s e : ℕ) (t m u : List ℕ) (r : Bool) → Keeps t m × (r ≡ true → Added s e m) → Keeps m u × ((a b : ℕ) → Added a b u) → Names q t u true
names_all q s e t m u r g h = record {
  keeps = keeps_twice t m u g.0 h.0;
  each = λ x p. h.1 x (suc x) x (omega arith) (omega arith);
  all = λ p x. h.1 x (suc x) x (omega arith) (omega arith);
}

-- ---- one number

pub names_single : (x : ℕ) (t u : List ℕ) → Keeps t u × (bit_at (x / 256 % 65536) u ≡ true) → Names (λ y. both (leb x y) (leb (suc y) (x + 1))) t u false
unfolding bucket_of
names_single x t u g = record { keeps = g.0; each = λ y q. go y (both_true (leb x y) (leb (suc y) (x + 1)) q); all = λ q. false_true q }
  where
    go : (y : ℕ) → (leb x y ≡ true) × (leb (suc y) (x + 1) ≡ true) → bit_at (y / 256 % 65536) u ≡ true
    go y p =
        let a = leb-true x y p.0 in
        let b = leb-true (suc y) (x + 1) p.1 in
        let same : y ≡ x = omega arith in
        rw same g.1

pub both_bits : (x : ℕ) (t u v : List ℕ) → Keeps t u × (bit_at (x / 256 % 65536) u ≡ true) → Keeps u v × (bit_at (x % 65536) v ≡ true) → Keeps t v × ((bit_at (bucket_of x) v ≡ true) × (bit_at (alone_of x) v ≡ true))
unfolding bucket_of alone_of
both_bits x t u v g h = (keeps_twice t u v g.0 h.0, (h.0.kept _ g.1, h.1))
