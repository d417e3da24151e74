-- Laws of a word: the tally of its lowest bit comes first, and a bit that is added adds its tally.
-- Assumes nothing.
use Prim.{tt}
use Prim.Native.Nat.{ℕ, zero, suc, ◌+◌, ◌-◌, ◌*◌, ◌/◌, ◌%◌, ◌^◌, ◌<◌, ◌≤◌}
use mathlib.Core.List.{List, [], ◌∷◌, ◌++◌}
use mathlib.Core.Path.{◌≡◌, refl, sym, ap, ◌∙◌}
use native.Mathlib.Decide.{ℕ_discrete}
use native.Mathlib.Nat.{pow-suc, zero-min, div-div-eq-div-mul, min-zero}
use native.Mathlib.Omega.{arith}
use lib.Bits.{bit_and, and_step, and_self, and_le_r}
use lib.Count.{count_trailing_zeros}
use lib.Dec.{eqb}
use lib.Pow.{shl_exact}
use borrow.Author.Tests.{eq-eqb, ne_eqb}
use Rattle.numbers.specs.Tests.{pick}
use Rattle.flush_sort.specs.Sorting.{All, Sorted}
use Rattle.report_set.specs.Set.{one_tally, word_tallies}

-- ---- the lowest bit

module _ (k x w : ℕ) where
  even_word : w % 2 ≡ 0 → word_tallies (suc k) x w ≡ word_tallies k (suc x) (w / 2)
  unfolding word_tallies pick
  even_word e = rw (eq-eqb (w % 2) 0 e)

  odd_word : (w % 2 ≡ 0 → ⊥) → word_tallies (suc k) x w ≡ one_tally x ∷ word_tallies k (suc x) (w / 2)
  unfolding word_tallies pick
  odd_word e = rw (ne_eqb (w % 2) 0 e)

pub no_bits : (k x : ℕ) → word_tallies k x 0 ≡ []
unfolding word_tallies
no_bits zero x = refl
no_bits (suc k) x = even_word k x 0 refl ∙ no_bits k (suc x)

even_trail : (k n : ℕ) → n % 2 ≡ 0 → count_trailing_zeros (suc k) n ≡ suc (count_trailing_zeros k (n / 2))
unfolding count_trailing_zeros
even_trail k n e = rw e

odd_trail : (k n : ℕ) → (n % 2 ≡ 0 → ⊥) → count_trailing_zeros (suc k) n ≡ 0
unfolding count_trailing_zeros
odd_trail k n e = let one : n % 2 ≡ 1 = omega arith in rw one

-- the lowest bit taken off
even_less : (n : ℕ) → 0 < n → n % 2 ≡ 0 → bit_and n (n - 1) ≡ bit_and (n / 2) (n / 2 - 1) * 2
even_less n some e =
    let half : (n - 1) / 2 ≡ n / 2 - 1 = omega arith in
    and_step n (n - 1) ∙ rw (e, half, zero-min) (omega arith)

odd_less : (n : ℕ) → (n % 2 ≡ 0 → ⊥) → bit_and n (n - 1) ≡ n / 2 * 2
odd_less n e =
    let half : (n - 1) / 2 ≡ n / 2 = omega arith in
    let none : (n - 1) % 2 ≡ 0 = omega arith in
    and_step n (n - 1) ∙ rw (half, none, and_self (n / 2), min-zero) (omega arith)

module _ (k x n : ℕ) (some : 0 < n) where
  first_even : n % 2 ≡ 0 → word_tallies k (suc x) (n / 2) ≡ one_tally (suc x + count_trailing_zeros k (n / 2)) ∷ word_tallies k (suc x) (bit_and (n / 2) (n / 2 - 1)) → word_tallies (suc k) x n ≡ one_tally (x + count_trailing_zeros (suc k) n) ∷ word_tallies (suc k) x (bit_and n (n - 1))
  first_even e ih =
      let less = even_less n some e in
      let t = even_trail k n e in
      let place : suc x + count_trailing_zeros k (n / 2) ≡ x + count_trailing_zeros (suc k) n = omega arith in
      let rest : word_tallies (suc k) x (bit_and n (n - 1)) ≡ word_tallies k (suc x) (bit_and (n / 2) (n / 2 - 1)) = even_word k x (bit_and n (n - 1)) (omega arith) ∙ ap (word_tallies k (suc x)) (omega arith) in
      even_word k x n e ∙ ih ∙ rw (place, rest)

  first_odd : (n % 2 ≡ 0 → ⊥) → word_tallies (suc k) x n ≡ one_tally (x + count_trailing_zeros (suc k) n) ∷ word_tallies (suc k) x (bit_and n (n - 1))
  first_odd e =
      let less = odd_less n e in
      let t = odd_trail k n e in
      let place : x + count_trailing_zeros (suc k) n ≡ x = omega arith in
      let rest : word_tallies (suc k) x (bit_and n (n - 1)) ≡ word_tallies k (suc x) (n / 2) = even_word k x (bit_and n (n - 1)) (omega arith) ∙ ap (word_tallies k (suc x)) (omega arith) in
      odd_word k x n e ∙ rw (rest, place)

pub first_listed : (k x n : ℕ) → 0 < n → n < 2 ^ k → word_tallies k x n ≡ one_tally (x + count_trailing_zeros k n) ∷ word_tallies k x (bit_and n (n - 1))
first_listed zero x n some few = absurd (omega arith)
first_listed (suc k) x n some few =
    let twice = pow-suc 2 k in
    go (λ e. first_listed k (suc x) (n / 2) (omega arith) (omega arith)) (ℕ_discrete (n % 2) 0)
  where
    go : (n % 2 ≡ 0 → word_tallies k (suc x) (n / 2) ≡ one_tally (suc x + count_trailing_zeros k (n / 2)) ∷ word_tallies k (suc x) (bit_and (n / 2) (n / 2 - 1))) → Dec (n % 2 ≡ 0) → word_tallies (suc k) x n ≡ one_tally (x + count_trailing_zeros (suc k) n) ∷ word_tallies (suc k) x (bit_and n (n - 1))
    go ih (yes e) = first_even k x n some e (ih e)
    go ih (no e) = first_odd k x n some e

pub trail_small : (k n : ℕ) → 0 < n → n < 2 ^ k → count_trailing_zeros k n < k
trail_small zero n some few = absurd (omega arith)
trail_small (suc k) n some few = let twice = pow-suc 2 k in go (λ e. trail_small k (n / 2) (omega arith) (omega arith)) (ℕ_discrete (n % 2) 0)
  where
    go : (n % 2 ≡ 0 → count_trailing_zeros k (n / 2) < k) → Dec (n % 2 ≡ 0) → count_trailing_zeros (suc k) n < suc k
    go ih (yes e) = let t = even_trail k n e in let h = ih e in omega arith
    go ih (no e) = let t = odd_trail k n e in omega arith

pub less_bits : (n : ℕ) → (n ≡ 0 → ⊥) → bit_and n (n - 1) < n
less_bits n some = let h = and_le_r n (n - 1) in omega arith

-- ---- a bit added

pub shl_one : (b : ℕ) → b < 64 → 1 * 2 ^ b % 2 ^ 64 ≡ 2 ^ b
shl_one b h = shl_exact {a = 1} 1 b 64 (omega arith) (omega arith) ∙ omega arith

half_bit : (w b : ℕ) → w / 2 ^ suc b % 2 ≡ w / 2 / 2 ^ b % 2
half_bit w b =
    let p : 2 ^ suc b ≡ 2 * 2 ^ b = let q = pow-suc 2 b in omega arith in
    rw p (ap (λ (n : ℕ). n % 2) (sym (div-div-eq-div-mul w 2 (2 ^ b))))

pub bit_fits : (k w b : ℕ) → w < 2 ^ k → b < k → w / 2 ^ b % 2 ≡ 0 → w + 2 ^ b < 2 ^ k
bit_fits zero w b few h e = absurd (omega arith)
bit_fits (suc k) w zero few h e = let p = pow-suc 2 k in omega arith
bit_fits (suc k) w (suc b) few h e =
    let p = pow-suc 2 k in
    let q = pow-suc 2 b in
    let r = bit_fits k (w / 2) b (omega arith) (omega arith) (sym (half_bit w b) ∙ e) in
    omega arith

-- what adds up over lists, and is g x of the tally of x alone
module _ (f : List ℕ → ℕ) (g : ℕ → ℕ) (add : (a b : List ℕ) → f (a ++ b) ≡ f a + f b) (one : (x : ℕ) → f (one_tally x ∷ []) ≡ g x) where
  pub word_added : (k x w b : ℕ) → b < k → w / 2 ^ b % 2 ≡ 0 → f (word_tallies k x (w + 2 ^ b)) ≡ f (word_tallies k x w) + g (x + b)
  unfolding word_tallies
  word_added zero x w b h e = absurd (omega arith)
  word_added (suc k) x w zero h e =
      let half : (w + 1) / 2 ≡ w / 2 = omega arith in
      let here : x + 0 ≡ x = omega arith in
      let was = ap f (even_word k x w (omega arith)) in
      let now : f (word_tallies (suc k) x (w + 1)) ≡ g x + f (word_tallies k (suc x) (w / 2)) = ap f (odd_word k x (w + 1) (λ z. omega arith)) ∙ rw half (add (one_tally x ∷ []) (word_tallies k (suc x) (w / 2)) ∙ rw (one x)) in
      rw here (omega arith)
  word_added (suc k) x w (suc b) h e =
      let q = pow-suc 2 b in
      let half : (w + 2 ^ suc b) / 2 ≡ w / 2 + 2 ^ b = omega arith in
      let low : (w + 2 ^ suc b) % 2 ≡ w % 2 = omega arith in
      let place : suc x + b ≡ x + suc b = omega arith in
      let r : f (word_tallies k (suc x) (w / 2 + 2 ^ b)) ≡ f (word_tallies k (suc x) (w / 2)) + g (x + suc b) = rw (← place) (word_added k (suc x) (w / 2) b (omega arith) (sym (half_bit w b) ∙ e)) in
      let first : List ℕ = pick (eqb (w % 2) 0) [] (one_tally x ∷ []) in
      let now : f (word_tallies (suc k) x (w + 2 ^ suc b)) ≡ f first + f (word_tallies k (suc x) (w / 2 + 2 ^ b)) = rw (low, half) (add first (word_tallies k (suc x) (w / 2 + 2 ^ b))) in
      let was : f (word_tallies (suc k) x w) ≡ f first + f (word_tallies k (suc x) (w / 2)) = add first (word_tallies k (suc x) (w / 2)) in
      omega arith

-- ---- in order

all_from : (a b : ℕ) → a ≤ b → (l : List ℕ) → All (λ t. b ≤ t) l → All (λ t. a ≤ t) l
unfolding All
all_from a b h [] all = tt
all_from a b h (t ∷ l) all = let first = all.0 in (omega arith, all_from a b h l all.1)

pub word_rising : (k x w : ℕ) (l : List ℕ) → All (λ t. one_tally (x + k) ≤ t) l → Sorted l → All (λ t. one_tally x ≤ t) (word_tallies k x w ++ l) × Sorted (word_tallies k x w ++ l)
unfolding word_tallies Sorted All
word_rising zero x w l above sorted = let same : x + 0 ≡ x = omega arith in (rw same at above, sorted)
word_rising (suc k) x w l above sorted =
    let place : x + suc k ≡ suc x + k = omega arith in
    go (word_rising k (suc x) (w / 2) l (rw place at above) sorted) (ℕ_discrete (w % 2) 0)
  where
    go : All (λ t. one_tally (suc x) ≤ t) (word_tallies k (suc x) (w / 2) ++ l) × Sorted (word_tallies k (suc x) (w / 2) ++ l) → Dec (w % 2 ≡ 0) → All (λ t. one_tally x ≤ t) (word_tallies (suc k) x w ++ l) × Sorted (word_tallies (suc k) x w ++ l)
    go rest (yes e) = rw (even_word k x w e) (all_from (one_tally x) (one_tally (suc x)) (omega arith) (word_tallies k (suc x) (w / 2) ++ l) rest.0, rest.1)
    go rest (no e) =
        let after = all_from (one_tally x) (one_tally (suc x)) (omega arith) (word_tallies k (suc x) (w / 2) ++ l) rest.0 in
        rw (odd_word k x w e) ((omega arith, after), (after, rest.1))
