-- Digits read back as the number; how long a count is, and a line.
-- Assumes nothing.
use Prim.Native.Nat.{ℕ, zero, suc, ◌+◌, ◌*◌, ◌/◌, ◌%◌, ◌^◌, ◌<◌, ◌≤◌}
use mathlib.Core.Bool.{Bool, true, false}
use mathlib.Core.Path.{◌≡◌, refl, ap}
use native.Mathlib.Omega.{arith}
use lib.Dec.{leb}
use lib.ListN.{length, length-append}
use borrow.Author.Tests.{leb-true, leb-false, le-leb, lt-leb}
use Rattle.numbers.specs.Tests.{pick}
use Rattle.numbers.specs.Bytes.{bytes_of}
use Rattle.report.specs.Text.{sign, digits_of, hexadecimal, width_of, decimal, line_text, free_text, spoilt_text}
use Rattle.report.specs.Claims.{digit_of, number_in, DigitsReadBack}

pub digit_sign : (d : ℕ) → d < 16 → digit_of (sign d) ≡ d
unfolding sign pick
digit_sign d h = go (leb d 9) refl
  where
    go : (b : Bool) → leb d 9 ≡ b → digit_of (pick b (0x30 + d) (0x37 + d)) ≡ d
    go true e =
        let small = leb-true d 9 e in
        let low : leb (0x30 + d) 0x39 ≡ true = le-leb (0x30 + d) 0x39 (omega arith) in
        rw low (omega arith)
    go false e =
        let large = leb-false d 9 e in
        let high : leb (0x37 + d) 0x39 ≡ false = lt-leb (0x37 + d) 0x39 (omega arith) in
        rw high (omega arith)

read_decimal : (n : ℕ) → n < 10 ^ 4 → number_in 10 (decimal n) ≡ n
unfolding decimal width_of digits_of number_in pick
read_decimal n h = go (leb n 9) (leb n 99) (leb n 999) refl refl refl
  where
    go : (a b c : Bool) → leb n 9 ≡ a → leb n 99 ≡ b → leb n 999 ≡ c → number_in 10 (digits_of 10 (pick a 1 (pick b 2 (pick c 3 4))) n) ≡ n
    go true b c e f g =
        let h1 = leb-true n 9 e in
        rw (digit_sign (n / 10 ^ 0 % 10) (omega arith)) (omega arith)
    go false true c e f g =
        let h1 = leb-true n 99 f in
        rw (digit_sign (n / 10 ^ 1 % 10) (omega arith), digit_sign (n / 10 ^ 0 % 10) (omega arith)) (omega arith)
    go false false true e f g =
        let h1 = leb-true n 999 g in
        rw (digit_sign (n / 10 ^ 2 % 10) (omega arith), digit_sign (n / 10 ^ 1 % 10) (omega arith), digit_sign (n / 10 ^ 0 % 10) (omega arith)) (omega arith)
    go false false false e f g =
        let high : n / 10 ^ 3 % 10 * 10 + n / 10 ^ 2 % 10 ≡ n / 100 = omega arith in
        let low : n / 10 ^ 1 % 10 * 10 + n / 10 ^ 0 % 10 ≡ n % 100 = omega arith in
        rw (digit_sign (n / 10 ^ 3 % 10) (omega arith), digit_sign (n / 10 ^ 2 % 10) (omega arith), digit_sign (n / 10 ^ 1 % 10) (omega arith), digit_sign (n / 10 ^ 0 % 10) (omega arith)) (omega arith)

read_hexadecimal : (n : ℕ) → n < 2 ^ 16 → number_in 16 (hexadecimal n) ≡ n
unfolding hexadecimal digits_of number_in
read_hexadecimal n h =
    let high : n / 16 ^ 3 % 16 * 16 + n / 16 ^ 2 % 16 ≡ n / 256 = omega arith in
    let low : n / 16 ^ 1 % 16 * 16 + n / 16 ^ 0 % 16 ≡ n % 256 = omega arith in
    rw (digit_sign (n / 16 ^ 3 % 16) (omega arith), digit_sign (n / 16 ^ 2 % 16) (omega arith), digit_sign (n / 16 ^ 1 % 16) (omega arith), digit_sign (n / 16 ^ 0 % 16) (omega arith)) (omega arith)

pub digits_read_back : DigitsReadBack
digits_read_back = record { decimals = read_decimal; hexadecimals = read_hexadecimal }

-- ---- lengths

pub length_digits : (b k n : ℕ) → length (digits_of b k n) ≡ k
unfolding digits_of
length_digits b zero n = refl
length_digits b (suc k) n = ap suc (length_digits b k n)

pub length-decimal : (n : ℕ) → length (decimal n) ≡ width_of n
unfolding decimal
length-decimal n = length_digits 10 (width_of n) n

pub width_most : (n : ℕ) → width_of n ≤ 4
unfolding width_of pick
width_most n = go (leb n 9) (leb n 99) (leb n 999)
  where
    go : (a b c : Bool) → pick a 1 (pick b 2 (pick c 3 4)) ≤ 4
    go true b c = omega arith
    go false true c = omega arith
    go false false true = omega arith
    go false false false = omega arith

pub length_line : (x l c : ℕ) → length (line_text x l c) ≡ 7 + width_of l + width_of c
unfolding line_text hexadecimal
length_line x l c =
    simp (length-append, length_digits, length-decimal) (omega arith)

pub length_free : (n : ℕ) → length (free_text n) ≡ 6 + width_of n
unfolding free_text bytes_of
length_free n = simp (length-append, length-decimal) (omega arith)

pub length-spoilt : (n : ℕ) → length (spoilt_text n) ≡ 8 + width_of n
unfolding spoilt_text bytes_of
length-spoilt n = simp (length-append, length-decimal) (omega arith)
