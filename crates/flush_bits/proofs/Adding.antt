-- Laws of one bit added to a set where a test passed.
-- Assumes nothing.
use Prim.Native.Nat.{ℕ, ◌*◌, ◌/◌, ◌%◌, ◌^◌, ◌≤◌, ◌<◌}
use mathlib.Core.Bool.{Bool, true, false}
use mathlib.Core.List.{List}
use mathlib.Core.Path.{◌≡◌, refl, sym, ap, ◌∙◌}
use native.Mathlib.Decide.{ℕ_discrete}
use native.Mathlib.Omega.{arith}
use lib.Bits.{bit_or}
use lib.Dec.{eqb, leb}
use lib.ListN.{length, get_or, set, length-set}
use borrow.Author.Tests.{eq-eqb, ne_eqb, leb-true}
use Rattle.numbers.specs.Tests.{pick, both, either}
use Rattle.numbers.specs.Numberings.{bit_of, bit_at}
use Rattle.numbers.proofs.Truth.{both_true, either_none}
use Rattle.flush_bits.proofs.Laws.{every, every_at, alike, alike_same, byte_other, added_same}
use Rattle.flush_bits.specs.Ranged.{Widened}

-- ---- bit k of a byte, or none

abbrev bit_rule : Bool → ℕ → ℕ → Bool
bit_rule b k j = both (alike (bit_of (pick b 128 0 / 2 ^ k) j) (both (eqb j k) b)) (leb (pick b 128 0 / 2 ^ k) 255)

bits_computed : (b : Bool) → every 8 (λ k. every 8 (bit_rule b k)) ≡ true
unfolding bit_of both pick
bits_computed true = refl
bits_computed false = refl

module _ (b : Bool) (k : ℕ) (near : k < 8) where
  rule : (j : ℕ) → j < 8 → bit_rule b k j ≡ true
  rule = every_at 8 (bit_rule b k) (every_at 8 (λ k. every 8 (bit_rule b k)) (bits_computed b) k near)

  pub bit_size : (h : ℕ) → h ≡ pick b 128 0 → h / 2 ^ k < 256
  bit_size h e =
      let few : pick b 128 0 / 2 ^ k ≤ 255 = leb-true _ _ (both_true _ _ (rule 0 (omega arith))).1 in
      rw e (omega arith)

  bit_is : (j : ℕ) → j < 8 → bit_of (pick b 128 0 / 2 ^ k) j ≡ both (eqb j k) b
  bit_is j g = alike_same _ _ (both_true _ _ (rule j g)).0

-- ---- the bit added

module _ (s : List ℕ) (k : ℕ) (room : k < 8 * length s) (b : Bool) where
  abbrev more : List ℕ
  more = set s (k / 8) (bit_or (get_or s (k / 8) 0) (pick b 128 0 / 2 ^ (k % 8)))

  same_place : (j : ℕ) → j / 8 ≡ k / 8 → Dec (j ≡ k) → eqb (j % 8) (k % 8) ≡ eqb j k
  same_place j e (yes q) = rw q (eq-eqb (k % 8) (k % 8) refl ∙ sym (eq-eqb k k refl))
  same_place j e (no d) = ne_eqb (j % 8) (k % 8) (λ f. d (omega arith)) ∙ sym (ne_eqb j k d)

  added : (j : ℕ) → Dec (j / 8 ≡ k / 8) → bit_at j more ≡ either (bit_at j s) (both (eqb j k) b)
  unfolding both
  added j (yes e) =
      added_same s (k / 8) _ (omega arith) j e
      ∙ ap (either (bit_at j s)) (bit_is b (k % 8) (omega arith) (j % 8) (omega arith) ∙ rw (same_place j e (ℕ_discrete j k)))
  added j (no d) = byte_other s (k / 8) _ j d ∙ sym (rw (ne_eqb j k (λ q. d (rw q))) (either_none (bit_at j s)))

  pub mark_added : (m : ℕ) → m ≡ pick b 128 0 / 2 ^ (k % 8) → (t : List ℕ) → t ≡ set s (k / 8) (bit_or (get_or s (k / 8) 0) m) → Widened s t k b
  mark_added m e t f = rw (f, e) (record { long = length-set s (k / 8) _; each = λ j. added j (ℕ_discrete (j / 8) (k / 8)) })
