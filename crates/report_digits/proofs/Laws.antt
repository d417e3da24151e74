-- Laws of the text: digits in parts, one byte of an area.
-- Assumes nothing.
use Prim.Native.Nat.{ℕ, suc, ◌+◌, ◌-◌, ◌*◌, ◌/◌, ◌%◌, ◌^◌, ◌<◌, ◌≤◌}
use mathlib.Core.List.{List, [], ◌∷◌, ◌++◌, append-nil, append_assoc}
use mathlib.Core.Path.{◌≡◌, sym, ap, ◌∙◌}
use native.Mathlib.Nat.{mod-lt, div-div-eq-div-mul, pow-suc, pow-zero}
use native.Mathlib.Decide.{dec_lt}
use native.Mathlib.Numerals.{add-one}
use native.Mathlib.Omega.{arith}
use lib.ListN.{length, take, drop, set, length-append, take-append-drop}
use lib.Seq.{length-take-le, set_split, take-take, drop_at}
use Rattle.std.proofs.lemmas.List.{take-append-le}
use borrow.Author.Tests.{le-leb, lt-leb}
use Rattle.numbers.specs.Tests.{pick}
use Rattle.numbers.specs.Bytes.{bytes_of}
use Rattle.frame_copy.specs.Areas.{pasted}
use Rattle.frame_copy.proofs.Copying.{paste_next}
use Rattle.report.specs.Text.{sign, digits_of, hexadecimal, width_of}
use Rattle.report.proofs.Digits.{length_digits}

pub put_one : (o : List ℕ) (at v : ℕ) → at < length o → set o at v ≡ pasted o at (v ∷ [])
unfolding pasted
put_one o at v h = rw (add-one at) (set_split o at v h ∙ sym (append_assoc (take at o) (v ∷ []) (drop (suc at) o)))

-- a copy right after another
pub then-pasted : (o o₁ o₂ x y z : List ℕ) (at k : ℕ) → o₁ ≡ pasted o at x → o₂ ≡ pasted o₁ k y → at ≤ length o → at + length x ≡ k → x ++ y ≡ z → o₂ ≡ pasted o at z
then-pasted o o₁ o₂ x y z at k first second h e whole = second ∙ rw first (paste_next o x y at k h e ∙ ap (pasted o at) whole)

-- ---- digits from the low one on

-- a byte before what is pasted
paste_before : (o x : List ℕ) (at v : ℕ) → at + 1 + length x ≤ length o → set (pasted o (at + 1) x) at v ≡ pasted o at (v ∷ x)
unfolding pasted
paste_before o x at v h =
    let y : List ℕ = take (at + 1) o in
    let z : List ℕ = x ++ drop (at + 1 + length x) o in
    let long : length y ≡ at + 1 = length-take-le (at + 1) o (omega arith) in
    let whole : length (y ++ z) ≡ length y + length z = length-append y z in
    let front : take at (y ++ z) ≡ take at o = take-append-le at y z (omega arith) ∙ take-take at (at + 1) o (omega arith) in
    let next : at + 1 + length x ≡ at + suc (length x) = omega arith in
    ap (λ (l : List ℕ). set l at v) (append_assoc y x _)
    ∙ set_split (y ++ z) at v (omega arith)
    ∙ rw (front, drop_at y z (suc at) (omega arith))
    (ap (λ (m : ℕ). take at o ++ v ∷ (x ++ drop m o)) next ∙ sym (append_assoc (take at o) (v ∷ x) _))

module _ (b n k at : ℕ) (o : List ℕ) where
  -- the digits from place i on are written, and left is what the others are of
  pub record Putting (out : List ℕ) (left i : ℕ) : Type 0 where
    pub so_far : out ≡ pasted o (at + i) (digits_of b (k - i) n)
    pub rest : left ≡ n / b ^ (k - i)

  pub put_start : Putting o n k
  unfolding digits_of pasted
  put_start =
      let none : k - k ≡ 0 = omega arith in
      let more : at + k + 0 ≡ at + k = omega arith in
      record { so_far = rw (none, more) (sym (take-append-drop (at + k) o) ∙ ap (λ (l : List ℕ). l ++ drop (at + k) o) (sym (append-nil (take (at + k) o)))); rest = rw (none, pow-zero b) (omega arith) }

  pub put_next : (out : List ℕ) (left i : ℕ) → Putting out left i → at + k ≤ length o → 0 < i → i ≤ k → (v : ℕ) → v ≡ sign (left % b) → Putting (set out (at + (i - 1)) v) (left / b) (i - 1)
  unfolding digits_of
  put_next out left i s room some within v ev =
      let at₁ : at + i ≡ at + (i - 1) + 1 = omega arith in
      let more : k - (i - 1) ≡ suc (k - i) = omega arith in
      let long = length_digits b (k - i) n in
      record {
        so_far = rw (s.so_far, at₁, more, ev, s.rest) (paste_before o (digits_of b (k - i) n) (at + (i - 1)) _ (omega arith));
        rest = rw (s.rest, more, pow-suc b (k - i)) (div-div-eq-div-mul n (b ^ (k - i)) b);
      }

-- the ways of a count
module _ (n : ℕ) where
  pub width_1 : n ≤ 9 → width_of n ≡ 1
  unfolding width_of pick
  width_1 h = rw (le-leb n 9 h)

  pub width_2 : 9 < n → n ≤ 99 → width_of n ≡ 2
  unfolding width_of pick
  width_2 g h = rw (lt-leb n 9 g, le-leb n 99 h)

  pub width_3 : 9 < n → 99 < n → n ≤ 999 → width_of n ≡ 3
  unfolding width_of pick
  width_3 f g h = rw (lt-leb n 9 f, lt-leb n 99 g, le-leb n 999 h)

  pub width_4 : 9 < n → 99 < n → 999 < n → width_of n ≡ 4
  unfolding width_of pick
  width_4 f g h = rw (lt-leb n 9 f, lt-leb n 99 g, lt-leb n 999 h)

pub sign_digit : (d : ℕ) → d ≤ 9 → 0x30 + d ≡ sign d
unfolding sign pick
sign_digit d h = rw (le-leb d 9 h)

pub sign_letter : (d : ℕ) → 9 < d → 0x37 + d ≡ sign d
unfolding sign pick
sign_letter d h = rw (lt-leb d 9 h)

-- four signs as one number
hexadecimal_bytes : (n a b c d : ℕ) → a ≡ sign (n / 0x1000 % 16) → b ≡ sign (n / 0x100 % 16) → c ≡ sign (n / 0x10 % 16) → d ≡ sign (n % 16) → a < 2 ^ 8 → b < 2 ^ 8 → c < 2 ^ 8 → d < 2 ^ 8
    → bytes_of 4 (a * 0x100_0000 + b * 0x1_0000 + c * 0x100 + d) ≡ hexadecimal n
unfolding bytes_of hexadecimal digits_of
hexadecimal_bytes n a b c d ea eb ec ed ha hb hc hd =
    let w : ℕ = a * 0x100_0000 + b * 0x1_0000 + c * 0x100 + d in
    let one : w / 256 ^ 3 % 256 ≡ a = omega arith in
    let two : w / 256 ^ 2 % 256 ≡ b = omega arith in
    let three : w / 256 ^ 1 % 256 ≡ c = omega arith in
    let four : w / 256 ^ 0 % 256 ≡ d = omega arith in
    let last : n / 16 ^ 0 % 16 ≡ n % 16 = omega arith in
    rw (one, two, three, four, last, ea, eb, ec, ed)

-- what a letter has more than a digit
sign-sum : (d : ℕ) → d < 16 → 0x30 + d + (d + 6) / 16 * 7 ≡ sign d
sign-sum d h = go (dec_lt 9 d)
  where
    go : Dec (9 < d) → 0x30 + d + (d + 6) / 16 * 7 ≡ sign d
    go (yes l) = let e : 0x30 + d + (d + 6) / 16 * 7 ≡ 0x37 + d = omega arith in e ∙ sign_letter d l
    go (no l) = let e : 0x30 + d + (d + 6) / 16 * 7 ≡ 0x30 + d = omega arith in e ∙ sign_digit d (omega arith)

-- the fifth bit of a byte of a number
bit_3 : (x lo : ℕ) → x < 32 → lo < 2 ^ 24 → (x * 0x100_0000 + lo) / 0x1000_0000 % 2 ≡ x / 16
bit_3 x lo h g = omega arith

bit_2 : (hi x lo : ℕ) → x < 32 → lo < 2 ^ 16 → (hi * 0x100_0000 + x * 0x1_0000 + lo) / 0x10_0000 % 2 ≡ x / 16
bit_2 hi x lo h g = omega arith

bit_1 : (hi x lo : ℕ) → x < 32 → lo < 2 ^ 8 → (hi * 0x1_0000 + x * 0x100 + lo) / 0x1000 % 2 ≡ x / 16
bit_1 hi x lo h g = omega arith

bit_0 : (hi x : ℕ) → x < 32 → (hi * 0x100 + x) / 0x10 % 2 ≡ x / 16
bit_0 hi x h = omega arith

-- four signs at once
module _ (a b c d v w m : ℕ) (ha : a < 16) (hb : b < 16) (hc : c < 16) (hd : d < 16)
    (ev : v ≡ a * 0x100_0000 + b * 0x1_0000 + c * 0x100 + d) (ew : w ≡ v + 0x606_0606) where
  one : w / 0x1000_0000 % 2 ≡ (a + 6) / 16
  one =
      let e : w ≡ (a + 6) * 0x100_0000 + ((b + 6) * 0x1_0000 + (c + 6) * 0x100 + (d + 6)) = omega arith in
      rw e (bit_3 (a + 6) ((b + 6) * 0x1_0000 + (c + 6) * 0x100 + (d + 6)) (omega arith) (omega arith))

  two : w / 0x10_0000 % 2 ≡ (b + 6) / 16
  two =
      let e : w ≡ (a + 6) * 0x100_0000 + (b + 6) * 0x1_0000 + ((c + 6) * 0x100 + (d + 6)) = omega arith in
      rw e (bit_2 (a + 6) (b + 6) ((c + 6) * 0x100 + (d + 6)) (omega arith) (omega arith))

  three : w / 0x1000 % 2 ≡ (c + 6) / 16
  three =
      let e : w ≡ ((a + 6) * 0x100 + (b + 6)) * 0x1_0000 + (c + 6) * 0x100 + (d + 6) = omega arith in
      rw e (bit_1 ((a + 6) * 0x100 + (b + 6)) (c + 6) (d + 6) (omega arith) (omega arith))

  four : w / 0x10 % 2 ≡ (d + 6) / 16
  four =
      let e : w ≡ ((a + 6) * 0x1_0000 + (b + 6) * 0x100 + (c + 6)) * 0x100 + (d + 6) = omega arith in
      rw e (bit_0 ((a + 6) * 0x1_0000 + (b + 6) * 0x100 + (c + 6)) (d + 6) (omega arith))

  sum : (p q r s : ℕ) → v + 0x3030_3030 + (p * 0x100_0000 + q * 0x1_0000 + r * 0x100 + s) * 7 ≡ (0x30 + a + p * 7) * 0x100_0000 + (0x30 + b + q * 7) * 0x1_0000 + (0x30 + c + r * 7) * 0x100 + (0x30 + d + s * 7)
  sum p q r s = omega arith

  pub four_signs : m ≡ w / 0x1000_0000 % 2 * 0x100_0000 + w / 0x10_0000 % 2 * 0x1_0000 + w / 0x1000 % 2 * 0x100 + w / 0x10 % 2
      → v + 0x3030_3030 + m * 7 ≡ (0x30 + a + (a + 6) / 16 * 7) * 0x100_0000 + (0x30 + b + (b + 6) / 16 * 7) * 0x1_0000 + (0x30 + c + (c + 6) / 16 * 7) * 0x100 + (0x30 + d + (d + 6) / 16 * 7)
  four_signs em = rw (em, one, two, three, four) (sum ((a + 6) / 16) ((b + 6) / 16) ((c + 6) / 16) ((d + 6) / 16))

pub hexadecimal_word : (n v w m : ℕ) → v ≡ n / 0x1000 % 16 * 0x100_0000 + n / 0x100 % 16 * 0x1_0000 + n / 0x10 % 16 * 0x100 + n % 16 → w ≡ v + 0x606_0606
    → m ≡ w / 0x1000_0000 % 2 * 0x100_0000 + w / 0x10_0000 % 2 * 0x1_0000 + w / 0x1000 % 2 * 0x100 + w / 0x10 % 2 → bytes_of 4 (v + 0x3030_3030 + m * 7) ≡ hexadecimal n
hexadecimal_word n v w m ev ew em =
    let a : ℕ = n / 0x1000 % 16 in
    let b : ℕ = n / 0x100 % 16 in
    let c : ℕ = n / 0x10 % 16 in
    let d : ℕ = n % 16 in
    ap (bytes_of 4) (four_signs a b c d v w m (omega arith) (omega arith) (omega arith) (omega arith) ev ew em)
    ∙ hexadecimal_bytes n (0x30 + a + (a + 6) / 16 * 7) (0x30 + b + (b + 6) / 16 * 7) (0x30 + c + (c + 6) / 16 * 7) (0x30 + d + (d + 6) / 16 * 7)
    (sign-sum a (omega arith)) (sign-sum b (omega arith)) (sign-sum c (omega arith)) (sign-sum d (omega arith)) (omega arith) (omega arith) (omega arith) (omega arith)

-- the two bytes of a number moved apart, and then the two digits of each
high_of_lem : (p q : ℕ) → p < 0x100 → q < 0x100 → (p * 0x1_0000 + q) / 0x10_0000 % 16 ≡ p / 16
high_of_lem p q hp hq = omega arith

low_of : (p q : ℕ) → p < 0x100 → q < 0x100 → (p * 0x1_0000 + q) / 0x10 % 16 ≡ q / 16
low_of p q hp hq = omega arith

two_apart : (p q a b c d : ℕ) → p ≡ a * 16 + b → q ≡ c * 16 + d → p * 0x1_0000 + q + (a * 0x1_0000 + c) * 0xf0 ≡ a * 0x100_0000 + b * 0x1_0000 + c * 0x100 + d
two_apart p q a b c d ep eq = omega arith

-- the high byte and the low one, of two digits each
high_byte : (n : ℕ) → n / 0x100 % 0x100 ≡ n / 0x1000 % 16 * 16 + n / 0x100 % 16
high_byte n = omega arith

low_byte : (n : ℕ) → n % 0x100 ≡ n / 0x10 % 16 * 16 + n % 16
low_byte n = omega arith

bytes_sum : (n : ℕ) → n % 0x1_0000 + n / 0x100 % 0x100 * 0xff00 ≡ n / 0x100 % 0x100 * 0x1_0000 + n % 0x100
bytes_sum n = omega arith

high_place : (p q a b : ℕ) → p ≡ a * 16 + b → a < 16 → b < 16 → q < 0x100 → (p * 0x1_0000 + q) / 0x10_0000 % 16 ≡ a
high_place p q a b e ha hb hq = high_of_lem p q (omega arith) hq ∙ omega arith

low_place : (p q c d : ℕ) → q ≡ c * 16 + d → c < 16 → d < 16 → p < 0x100 → (p * 0x1_0000 + q) / 0x10 % 16 ≡ c
low_place p q c d e hc hd hp = low_of p q hp (omega arith) ∙ omega arith

pub digits-apart : (n v h : ℕ) → v ≡ n % 0x1_0000 + n / 0x100 % 0x100 * 0xff00 → h ≡ v / 0x10_0000 % 16 * 0x1_0000 + v / 0x10 % 16
    → v + h * 0xf0 ≡ n / 0x1000 % 16 * 0x100_0000 + n / 0x100 % 16 * 0x1_0000 + n / 0x10 % 16 * 0x100 + n % 16
digits-apart n v h ev eh =
    rw (
      eh,
      ev,
      bytes_sum n,
      high_place (n / 0x100 % 0x100) (n % 0x100) (n / 0x1000 % 16) (n / 0x100 % 16) (high_byte n) (mod-lt _ (omega arith)) (mod-lt _ (omega arith)) (mod-lt _ (omega arith)),
      low_place (n / 0x100 % 0x100) (n % 0x100) (n / 0x10 % 16) (n % 16) (low_byte n) (mod-lt _ (omega arith)) (mod-lt _ (omega arith)) (mod-lt _ (omega arith)),
    )
    (two_apart (n / 0x100 % 0x100) (n % 0x100) (n / 0x1000 % 16) (n / 0x100 % 16) (n / 0x10 % 16) (n % 16) (high_byte n) (low_byte n))
