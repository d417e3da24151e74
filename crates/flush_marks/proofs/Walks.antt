-- Laws of a walk from one mark to the next.
-- Assumes nothing.
use Prim.Native.Nat.{ℕ, ◌+◌, ◌-◌, ◌*◌, ◌/◌, ◌%◌, ◌^◌, ◌<◌, ◌≤◌}
use mathlib.Core.Bool.{Bool, true, false}
use mathlib.Core.List.{List}
use mathlib.Core.Path.{◌≡◌, refl, sym, ◌∙◌}
use native.Mathlib.Decide.{dec_lt}
use native.Mathlib.Omega.{arith}
use lib.Count.{count_leading_zeros}
use Rattle.numbers.specs.Numberings.{bit_at}
use Rattle.numbers.proofs.Truth.{false_true}
use Rattle.flush_marks.specs.Marks.{high_bit, RestOf, Unmarked, Found, NextMark}
use Rattle.flush_marks.proofs.Words.{zero_high, top_high, first_high}
use Rattle.std.specs.Prelude.{Some, None}

module _ (m : List ℕ) (from : ℕ) where
  pub unmarked_none : Unmarked m from from
  unmarked_none = record { none = λ j a b. absurd (omega arith) }

  pub unmarked_less : (k n : ℕ) → n ≤ k → Unmarked m from k → Unmarked m from n
  unmarked_less k n h u = record { none = λ j a b. u.none j a (omega arith) }

  module _ (k : ℕ) (passed : Unmarked m from k) where
    pub next_found : (n : ℕ) → from ≤ k → k < n → (b : Bool) → b ≡ bit_at k m → b ≡ true → NextMark m from n (Some k)
    next_found n a l b told e = record {
      hit = λ j same. let q : k ≡ j = cc in rw q at found;
      miss = λ none. let z : ◌≡◌ {A = ℕ} 0 1 = cc in absurd (omega arith);
    }
      where
        found : Found m from n k
        found = record { behind = a; within = l; marked = sym told ∙ e; passed = passed }

    pub next_nowhere : (n : ℕ) → n ≤ k → NextMark m from n None
    next_nowhere n h = record {
      hit = λ j same. let z : ◌≡◌ {A = ℕ} 0 1 = cc in absurd (omega arith);
      miss = λ same. unmarked_less k n h passed;
    }

-- ---- what is left of a word of slots

module _ (m : List ℕ) (from k : ℕ) (passed : Unmarked m from k) (order : from ≤ k) (w : ℕ) (rest : RestOf m k w) where
  -- slots after slot k without a mark, none of them past the word
  tail-passed : (z : ℕ) → k % 64 + z ≤ 64 → ((i : ℕ) → i < z → high_bit w i ≡ false) → Unmarked m from (k + z)
  tail-passed z few clear = record { none = λ j a l. go j a l (dec_lt j k) }
    where
      go : (j : ℕ) → from ≤ j → j < k + z → Dec (j < k) → bit_at j m ≡ false
      go j a l (yes q) = passed.none j a q
      go j a l (no d) =
          let place : k + (j - k) ≡ j = omega arith in
          rw place at (sym (rest.bits (j - k) (omega arith)) ∙ clear (j - k) (omega arith))

  pub tail_here : (n : ℕ) → k < n → 2 ^ 63 ≤ w → NextMark m from n (Some k)
  tail_here n l h =
      let few = rest.few in
      let same : k + 0 ≡ k = omega arith in
      let marked : bit_at k m ≡ true = rw same at (sym (rest.bits 0 (omega arith)) ∙ top_high w h few) in
      next_found m from k passed n order l true (sym marked) refl

  pub tail_none : w ≡ 0 → Unmarked m from (k / 64 * 64 + 64)
  tail_none h =
      let end : k + (64 - k % 64) ≡ k / 64 * 64 + 64 = omega arith in
      rw end at (tail-passed (64 - k % 64) (omega arith) (λ i l. rw h (zero_high i)))

  module _ (some : w ≡ 0 → ⊥) (z : ℕ) (lead : z ≡ count_leading_zeros 64 w) where
    z_found : (k % 64 + z < 64) × ((high_bit w z ≡ true) × ((i : ℕ) → i < z → high_bit w i ≡ false))
    z_found =
        let f = rw (← lead) at (first_high w (omega arith) rest.few) in
        (inside f (dec_lt (k % 64 + z) 64), (f.1.0, f.1.1))
      where
        inside : (z < 64) × ((high_bit w z ≡ true) × ((i : ℕ) → i < z → high_bit w i ≡ false)) → Dec (k % 64 + z < 64) → k % 64 + z < 64
        inside f (yes q) = q
        inside f (no d) = false_true (sym (rest.none z (omega arith) f.0) ∙ f.1.0)

    pub tail_past : (n : ℕ) → n ≤ k + z → NextMark m from n None
    tail_past n h = let f = z_found in next_nowhere m from (k + z) (tail-passed z (omega (arith, f.0)) f.1.1) n h

    pub tail_hit : (n : ℕ) → k + z < n → NextMark m from n (Some (k + z))
    tail_hit n h =
        let f = z_found in
        next_found m from (k + z) (tail-passed z (omega (arith, f.0)) f.1.1) n (omega arith) h true (sym (sym (rest.bits z f.0) ∙ f.1.0)) refl
