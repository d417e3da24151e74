-- Laws of 64 marks as one number: its bits are those of eight bytes that are read or stored, a shift moves them up, and the first that
-- is set is counted to.
-- Assumes nothing.
use Prim.Native.Nat.{ℕ, zero, suc, ◌+◌, ◌-◌, ◌*◌, ◌/◌, ◌%◌, ◌^◌, ◌<◌, ◌≤◌}
use mathlib.Core.Bool.{true, false}
use mathlib.Core.List.{List}
use mathlib.Core.Path.{◌≡◌, refl, sym, ap, ◌∙◌}
use native.Mathlib.Nat.{mod-lt, mul_assoc, div-eq_of_lt, zero-div, pow-suc, lt_of_lt_of_le}
use native.Mathlib.Omega.{arith}
use lib.Bits.{shifted_even}
use lib.Count.{count_leading_zeros, leading_top}
use lib.Dec.{eqb}
use lib.ListN.{length, take, drop, get_or, length-drop}
use lib.Pow.{pow_pos, pow_mono, pow-add, shl-shr, shr-shr, field, mod-mod-pow, high}
use lib.Seq.{get_or-take, get_or-drop}
use Rattle.numbers.specs.Bytes.{AreBytes, num, bytes_of}
use Rattle.numbers.specs.Numberings.{bit_of, bit_at}
use Rattle.numbers.proofs.Bytes.{bytes_of_part}
use Rattle.flush_marks.specs.Marks.{mark_bytes, high_bit, RestOf}

-- a digit is one of the low digits
low_digit : (y a s : ℕ) → s < a → y % 2 ^ a / 2 ^ s % 2 ≡ y / 2 ^ s % 2
low_digit y a s h =
    let e : a ≡ a - suc s + 1 + s = omega arith in
    ap (λ (n : ℕ). n % 2) (ap (λ (n : ℕ). y % 2 ^ n / 2 ^ s) e ∙ field y (a - suc s + 1) s) ∙ mod-mod-pow (y / 2 ^ s) (a - suc s) 1

-- ---- the bits of eight bytes

byte_at : (k n j : ℕ) → j < k → get_or (bytes_of k n) j 0 ≡ n / 256 ^ (k - suc j) % 256
unfolding bytes_of
byte_at zero n j h = absurd (omega arith)
byte_at (suc k) n zero h = let e : suc k - 1 ≡ k = omega arith in rw e
byte_at (suc k) n (suc j) h =
    let e : suc k - suc (suc j) ≡ k - suc j = omega arith in
    rw e (byte_at k n j (omega arith))

bits_of_bytes : (a : ℕ) → 256 ^ a ≡ 2 ^ (8 * a)
bits_of_bytes zero = refl
bits_of_bytes (suc a) =
    let e : 8 * suc a ≡ 8 * a + 8 = omega arith in
    pow-suc 256 a ∙ ap (λ (n : ℕ). n * 256) (bits_of_bytes a) ∙ sym (ap (λ (n : ℕ). 2 ^ n) e ∙ pow-add 2 (8 * a) 8)

byte_bit : (n i : ℕ) → i < 64 → bit_of (get_or (bytes_of 8 n) (i / 8) 0) (i % 8) ≡ high_bit n i
unfolding high_bit bit_of
byte_bit n i h =
    let left : 8 - suc (i / 8) ≡ 7 - i / 8 = omega arith in
    let place : 8 * (7 - i / 8) + (7 - i % 8) ≡ 63 - i = omega arith in
    rw (byte_at 8 n (i / 8) (omega arith), left, bits_of_bytes (7 - i / 8))
    (ap (λ (x : ℕ). eqb x 1)
    (low_digit (n / 2 ^ (8 * (7 - i / 8))) 8 (7 - i % 8) (omega arith)
    ∙ ap (λ (x : ℕ). x % 2) (shr-shr n (8 * (7 - i / 8)) (7 - i % 8) ∙ ap (λ (x : ℕ). n / 2 ^ x) place)))

-- read
module _ (m : List ℕ) (known : AreBytes m) (a : ℕ) (room : a + 8 ≤ length m) where
  abbrev word : ℕ
  word = num (take 8 (drop a m))

  byte_of : (j : ℕ) → j < 8 → get_or m (a + j) 0 ≡ get_or (bytes_of 8 word) j 0
  byte_of j h =
      let l : length (drop a m) ≡ length m - a = length-drop a m in
      let bytes : AreBytes (drop a m) = λ i. rw (get_or-drop a m i 0) (known (a + i)) in
      sym (get_or-take 8 (drop a m) j 0 h ∙ get_or-drop a m j 0)
      ∙ ap (λ (x : List ℕ). get_or x j 0) (sym (bytes_of_part (drop a m) 8 bytes (omega arith)))

  pub word_bit : (i : ℕ) → i < 64 → high_bit word i ≡ bit_at (8 * a + i) m
  unfolding bit_at
  word_bit i h =
      let at : (8 * a + i) / 8 ≡ a + i / 8 = omega arith in
      let bit : (8 * a + i) % 8 ≡ i % 8 = omega arith in
      sym (rw (at, bit, byte_of (i / 8) (omega arith)) (byte_bit word i h))

-- ---- the bits of a word that is shifted

module _ (x f i : ℕ) where
  shifted_bit : f + i < 64 → high_bit (x * 2 ^ f % 2 ^ 64) i ≡ high_bit x (f + i)
  unfolding high_bit
  shifted_bit h =
      let place : 63 - i ≡ f + (63 - (f + i)) = omega arith in
      ap (λ (n : ℕ). eqb n 1)
      (low_digit (x * 2 ^ f) 64 (63 - i) (omega arith)
      ∙ ap (λ (n : ℕ). n % 2)
      (ap (λ (n : ℕ). x * 2 ^ f / 2 ^ n) place ∙ sym (shr-shr (x * 2 ^ f) f (63 - (f + i))) ∙ ap (λ (n : ℕ). n / 2 ^ (63 - (f + i))) (shl-shr x f)))

  shifted_none : 64 ≤ f + i → i < 64 → high_bit (x * 2 ^ f % 2 ^ 64) i ≡ false
  unfolding high_bit
  shifted_none h l =
      let e : f ≡ suc (f - suc (63 - i)) + (63 - i) = omega arith in
      ap (λ (n : ℕ). eqb n 1)
      (low_digit (x * 2 ^ f) 64 (63 - i) (omega arith)
      ∙ ap (λ (n : ℕ). n % 2)
      (ap (λ (n : ℕ). x * 2 ^ n / 2 ^ (63 - i)) e ∙ ap (λ (n : ℕ). x * n / 2 ^ (63 - i)) (pow-add 2 (suc (f - suc (63 - i))) (63 - i)) ∙ ap (λ (n : ℕ). n / 2 ^ (63 - i)) (sym (mul_assoc x (2 ^ suc (f - suc (63 - i))) (2 ^ (63 - i)))) ∙ shl-shr (x * 2 ^ suc (f - suc (63 - i))) (63 - i))
      ∙ shifted_even x (f - suc (63 - i)))

pub rest_is : (m : List ℕ) → AreBytes m → length m ≡ mark_bytes → (k : ℕ) → k < 4096 → (w : ℕ) → w ≡ num (take 8 (drop (k / 64 * 8) m)) → RestOf m k (w * 2 ^ (k % 64) % 2 ^ 64)
rest_is m known long k h w e =
    rw e (record {
      few = mod-lt (num (take 8 (drop (k / 64 * 8) m)) * 2 ^ (k % 64)) (pow_pos 64);
      bits = λ i l.
          let place : 8 * (k / 64 * 8) + (k % 64 + i) ≡ k + i = omega arith in
          shifted_bit (num (take 8 (drop (k / 64 * 8) m))) (k % 64) i l ∙ rw place at (word_bit m known (k / 64 * 8) (omega arith) (k % 64 + i) l);
      none = λ i a l. shifted_none (num (take 8 (drop (k / 64 * 8) m))) (k % 64) i a l;
    })

-- ---- the first bit that is set

pub zero_high : (i : ℕ) → high_bit 0 i ≡ false
unfolding high_bit
zero_high i = ap (λ (n : ℕ). eqb (n % 2) 1) (zero-div (2 ^ (63 - i)))

pub top_high : (w : ℕ) → 2 ^ 63 ≤ w → w < 2 ^ 64 → high_bit w 0 ≡ true
unfolding high_bit
top_high w h few = let one : w / 2 ^ 63 ≡ 1 = omega arith in ap (λ (n : ℕ). eqb (n % 2) 1) one

pub first_high : (w : ℕ) → 0 < w → w < 2 ^ 64 → (count_leading_zeros 64 w < 64) × ((high_bit w (count_leading_zeros 64 w) ≡ true) × ((i : ℕ) → i < count_leading_zeros 64 w → high_bit w i ≡ false))
unfolding high_bit
first_high w some few =
    let t = leading_top 64 w some few in
    let sum : count_leading_zeros 64 w + suc t.0 ≡ 64 = t.1 in
    let twice : 2 ^ suc t.0 ≡ 2 ^ t.0 * 2 = pow-suc 2 t.0 in
    let low : 2 ^ t.0 ≤ w = t.2 in
    let top : w < 2 ^ suc t.0 = t.3 in
    let parts : w ≡ 1 * 2 ^ t.0 + (w - 2 ^ t.0) = omega arith in
    let one : w / 2 ^ t.0 ≡ 1 = ap (λ (n : ℕ). n / 2 ^ t.0) parts ∙ high 1 t.0 (omega arith) in
    let place : 63 - count_leading_zeros 64 w ≡ t.0 = omega arith in (
      omega arith,
      (
        ap (λ (n : ℕ). eqb (n % 2) 1) (ap (λ (n : ℕ). w / 2 ^ n) place ∙ one),
        λ i l. ap (λ (n : ℕ). eqb (n % 2) 1) (div-eq_of_lt (lt_of_lt_of_le top (pow_mono {i = suc t.0} {j = 63 - i} (omega arith)))),
      ),
    )
