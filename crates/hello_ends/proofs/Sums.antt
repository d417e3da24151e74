-- The bytes of a number that are over its field, and their sum over a list.
-- Assumes nothing.
use Prim.Native.Nat.{ℕ, ◌+◌, ◌-◌, ◌*◌, ◌/◌, ◌%◌, ◌^◌, ◌<◌, ◌≤◌}
use mathlib.Core.Bool.{Bool, true, false}
use mathlib.Core.List.{List}
use mathlib.Core.Path.{◌≡◌, refl, sym, ap, ◌∙◌}
use native.Mathlib.Omega.{arith}
use lib.Dec.{leb, eqb}
use lib.ListN.{length, take, drop, get_or}
use borrow.Author.Tests.{ne_eqb, eqb-true, eqb-false, le-leb, lt-leb}
use Rattle.numbers.specs.Tests.{either}
use Rattle.numbers.specs.Bytes.{num}
use Rattle.numbers.specs.Swapped.{swapped4}
use Rattle.numbers.proofs.Bytes.{num-add}
use Rattle.hello.specs.Area.{take_many}
use Rattle.hello_area.specs.Entries.{numbers_in, reach}
use Rattle.hello_ends.specs.Below.{take_below, field_top, Over}
use Rattle.hello_ends.proofs.Numbers.{numbers_length, number_is}
use Rattle.hello_ends.proofs.Many.{numbers_bad, numbers_next, numbers_done}

-- ---- one number

-- a number by what is over its field, and the rest
is_zero : (h : ℕ) (P : Type 0) → (h ≡ 0 → P) → (0 < h → P) → P
is_zero h P f g = go (eqb h 0) refl
  where
    go : (c : Bool) → eqb h 0 ≡ c → P
    go true e = f (eqb-true h 0 e)
    go false e = let d = eqb-false h 0 e in g (positive h d)
      where
        positive : (n : ℕ) → (n ≡ 0 → ⊥) → 0 < n
        positive n d = omega arith

module _ (h l r : ℕ) (to : r ≡ 0 → h ≡ 0) (back : h ≡ 0 → r ≡ 0) (small : r < 281474976710656) where
  split_two : l < 65536 → Over 65536 (h * 65536 + l) r
  split_two few =
      record { none = λ z. let e = to z in omega arith; some = λ d. is_zero h (65536 ≤ h * 65536 + l) (λ e. absurd (d (back e))) (λ g. omega arith); small = small }

  split_six : l < 281474976710656 → Over 281474976710656 (h * 281474976710656 + l) r
  split_six few =
      record { none = λ z. let e = to z in omega arith; some = λ d. is_zero h (281474976710656 ≤ h * 281474976710656 + l) (λ e. absurd (d (back e))) (λ g. omega arith); small = small }

module _ (a b c d e f : ℕ) where
  abbrev Zeros : Type 0
  Zeros = (a ≡ 0) × ((b ≡ 0) × ((c ≡ 0) × ((d ≡ 0) × ((e ≡ 0) × (f ≡ 0)))))

  rising_zero : a + b * 2 ^ 8 + c * 2 ^ 16 + d * 2 ^ 24 + (e + f * 2 ^ 8) * 2 ^ 32 ≡ 0 → Zeros
  rising_zero z = (omega arith, (omega arith, (omega arith, (omega arith, (omega arith, omega arith)))))

  falling_zero : a * 2 ^ 40 + b * 2 ^ 32 + c * 2 ^ 24 + d * 2 ^ 16 + e * 2 ^ 8 + f ≡ 0 → Zeros
  falling_zero z = (omega arith, (omega arith, (omega arith, (omega arith, (omega arith, omega arith)))))

  zeros_rise : Zeros → a + b * 2 ^ 8 + c * 2 ^ 16 + d * 2 ^ 24 + (e + f * 2 ^ 8) * 2 ^ 32 ≡ 0
  zeros_rise z = rw (z.0, z.1.0, z.1.1.0, z.1.1.1.0, z.1.1.1.1.0, z.1.1.1.1.1)

  zeros_fall : Zeros → a * 2 ^ 40 + b * 2 ^ 32 + c * 2 ^ 24 + d * 2 ^ 16 + e * 2 ^ 8 + f ≡ 0
  zeros_fall z = rw (z.0, z.1.0, z.1.1.0, z.1.1.1.0, z.1.1.1.1.0, z.1.1.1.1.1)

module _ (a0 a1 a2 a3 b0 b1 b2 b3 : ℕ) (h0 : a0 < 256) (h1 : a1 < 256) (h2 : a2 < 256) (h3 : a3 < 256) (g0 : b0 < 256) (g1 : b1 < 256) (g2 : b2 < 256) (g3 : b3 < 256) where
  abbrev value : ℕ
  value = (a0 * 2 ^ 24 + a1 * 2 ^ 16 + a2 * 2 ^ 8 + a3) * 2 ^ 32 + (b0 * 2 ^ 24 + b1 * 2 ^ 16 + b2 * 2 ^ 8 + b3)

  abbrev word : ℕ
  word = a0 + a1 * 2 ^ 8 + a2 * 2 ^ 16 + a3 * 2 ^ 24 + (b0 + b1 * 2 ^ 8 + b2 * 2 ^ 16 + b3 * 2 ^ 24) * 2 ^ 32

  bytes_two : Over 65536 value (word % 2 ^ 48)
  bytes_two =
      let e : word % 2 ^ 48 ≡ a0 + a1 * 2 ^ 8 + a2 * 2 ^ 16 + a3 * 2 ^ 24 + (b0 + b1 * 2 ^ 8) * 2 ^ 32 = omega arith in
      let v : value ≡ (a0 * 2 ^ 40 + a1 * 2 ^ 32 + a2 * 2 ^ 24 + a3 * 2 ^ 16 + b0 * 2 ^ 8 + b1) * 65536 + (b2 * 2 ^ 8 + b3) = omega arith in
      rw (e, v)
      (split_two _ _ _
      (λ z. zeros_fall a0 a1 a2 a3 b0 b1 (rising_zero a0 a1 a2 a3 b0 b1 z))
      (λ z. zeros_rise a0 a1 a2 a3 b0 b1 (falling_zero a0 a1 a2 a3 b0 b1 z))
      (omega arith)
      (omega arith))

  bytes_six : Over 281474976710656 value (word % 2 ^ 16)
  bytes_six =
      let e : word % 2 ^ 16 ≡ a0 + a1 * 2 ^ 8 = omega arith in
      let v : value ≡ (a0 * 2 ^ 8 + a1) * 281474976710656 + ((a2 * 2 ^ 8 + a3) * 2 ^ 32 + (b0 * 2 ^ 24 + b1 * 2 ^ 16 + b2 * 2 ^ 8 + b3)) = omega arith in
      rw (e, v) (split_six _ _ _ (λ z. omega arith) (λ z. omega arith) (omega arith) (omega arith))

bytes_are : (a : ℕ) → a < 2 ^ 32 → a % 2 ^ 8 + a / 2 ^ 8 % 2 ^ 8 * 2 ^ 8 + a / 2 ^ 16 % 2 ^ 8 * 2 ^ 16 + a / 2 ^ 24 % 2 ^ 8 * 2 ^ 24 ≡ a
bytes_are a h =
    let e : a / 2 ^ 8 / 2 ^ 8 ≡ a / 2 ^ 16 = omega arith in
    let f : a / 2 ^ 16 / 2 ^ 8 ≡ a / 2 ^ 24 = omega arith in
    let t : a / 2 ^ 24 < 256 = omega arith in
    sum (a / 2 ^ 8) (a / 2 ^ 16) (a / 2 ^ 24) (omega arith) (omega arith) (omega arith) t
  where
    sum : (x y z : ℕ) → a ≡ x * 2 ^ 8 + a % 2 ^ 8 → x ≡ y * 2 ^ 8 + x % 2 ^ 8 → y ≡ z * 2 ^ 8 + y % 2 ^ 8 → z < 256 → a % 2 ^ 8 + x % 2 ^ 8 * 2 ^ 8 + y % 2 ^ 8 * 2 ^ 16 + z % 2 ^ 8 * 2 ^ 24 ≡ a
    sum x y z p q r t = omega arith

same_over : (top v r s : ℕ) → r ≡ s → Over top v r → Over top v s
same_over top v r s e o = rw (← e) o

module _ (a b : ℕ) (ha : a < 2 ^ 32) (hb : b < 2 ^ 32) where
  both_are : a % 2 ^ 8 + a / 2 ^ 8 % 2 ^ 8 * 2 ^ 8 + a / 2 ^ 16 % 2 ^ 8 * 2 ^ 16 + a / 2 ^ 24 % 2 ^ 8 * 2 ^ 24 + (b % 2 ^ 8 + b / 2 ^ 8 % 2 ^ 8 * 2 ^ 8 + b / 2 ^ 16 % 2 ^ 8 * 2 ^ 16 + b / 2 ^ 24 % 2 ^ 8 * 2 ^ 24) * 2 ^ 32 ≡ a + b * 2 ^ 32
  both_are = let p = bytes_are a ha in let q = bytes_are b hb in sum p q
    where
      sum : {x y : ℕ} → x ≡ a → y ≡ b → x + y * 2 ^ 32 ≡ a + b * 2 ^ 32
      sum p q = rw (p, q)

  over_two : Over 65536 (swapped4 a * 2 ^ 32 + swapped4 b) ((a + b * 2 ^ 32) % 2 ^ 48)
  over_two = same_over 65536 _ _ _ (ap (λ (x : ℕ). x % 2 ^ 48) both_are) (bytes_two (a % 2 ^ 8) (a / 2 ^ 8 % 2 ^ 8) (a / 2 ^ 16 % 2 ^ 8) (a / 2 ^ 24 % 2 ^ 8) (b % 2 ^ 8) (b / 2 ^ 8 % 2 ^ 8) (b / 2 ^ 16 % 2 ^ 8) (b / 2 ^ 24 % 2 ^ 8) (omega arith) (omega arith) (omega arith) (omega arith) (omega arith) (omega arith) (omega arith) (omega arith))

  over_six : Over 281474976710656 (swapped4 a * 2 ^ 32 + swapped4 b) ((a + b * 2 ^ 32) % 2 ^ 16)
  over_six = same_over 281474976710656 _ _ _ (ap (λ (x : ℕ). x % 2 ^ 16) both_are) (bytes_six (a % 2 ^ 8) (a / 2 ^ 8 % 2 ^ 8) (a / 2 ^ 16 % 2 ^ 8) (a / 2 ^ 24 % 2 ^ 8) (b % 2 ^ 8) (b / 2 ^ 8 % 2 ^ 8) (b / 2 ^ 16 % 2 ^ 8) (b / 2 ^ 24 % 2 ^ 8) (omega arith) (omega arith) (omega arith) (omega arith) (omega arith) (omega arith) (omega arith) (omega arith))

six_only : (top : ℕ) → field_top top ≡ true → (top ≡ 65536 → ⊥) → top ≡ 281474976710656
unfolding field_top either
six_only top f d =
    let q : field_top top ≡ eqb top 281474976710656 = rw (ne_eqb top 65536 d) in
    eqb-true top 281474976710656 (sym q ∙ f)

module _ (area : List ℕ) (i : ℕ) (there : i < length (numbers_in area)) where
  pub eight_fits : length area < 2 ^ 64 → 8 * i < 2 ^ 64
  eight_fits big = let n = numbers_length area in omega arith

  pub twelve_fits : length area < 2 ^ 64 → 8 * i + 4 < 2 ^ 64
  twelve_fits big = let n = numbers_length area in omega arith

  pub first_half : 8 * i + 4 ≤ length area
  first_half = let n = numbers_length area in omega arith

  pub second_half : 8 * i + 4 + 4 ≤ length area
  second_half = let n = numbers_length area in omega arith

module _ (area : List ℕ) (i : ℕ) (there : i < length (numbers_in area)) (a b : ℕ) (ha : a < 2 ^ 32) (hb : b < 2 ^ 32) (ea : swapped4 a ≡ num (take 4 (drop (8 * i) area))) (eb : swapped4 b ≡ num (take 4 (drop (8 * i + 4) area))) where
  halves : swapped4 a * 2 ^ 32 + swapped4 b ≡ get_or (numbers_in area) i 0
  halves =
      let n = numbers_length area in
      number_is area i there (swapped4 a * 2 ^ 32 + swapped4 b) (rw (ea, eb) (sym (num-add area (8 * i) 4 4 (omega arith))))

  pub number_over_two : (top : ℕ) → top ≡ 65536 → Over top (get_or (numbers_in area) i 0) ((a + b * 2 ^ 32) % 2 ^ 48)
  number_over_two top e = rw (e, ← halves) (over_two a b ha hb)

  pub number_over_six : (top : ℕ) → field_top top ≡ true → (top ≡ 65536 → ⊥) → Over top (get_or (numbers_in area) i 0) ((a + b * 2 ^ 32) % 2 ^ 16)
  number_over_six top f d = rw (six_only top f d, ← halves) (over_six a b ha hb)

-- ---- the sum of a list

module _ (ns : List ℕ) (i m top n : ℕ) where
  pub record Sums (s j : ℕ) : Type 0 where
    pub none : s ≡ 0 → reach (take_many (take_below top) (m - j)) ns (i + j) ≡ reach (take_many (take_below top) m) ns i
    pub some : (s ≡ 0 → ⊥) → n + 1 ≡ reach (take_many (take_below top) m) ns i

  module _ (en : n ≡ length ns) (room : i + m ≤ n) where
    pub sums_next : (s j : ℕ) → Sums s j → j < m → (r : ℕ) → Over top (get_or ns (i + j) 0) r → Sums (s + r) (j + 1)
    sums_next s j inv more r o = go (eqb s 0) (eqb r 0) refl refl
      where
        next : i + j + 1 ≡ i + (j + 1)
        next = omega arith

        go : (x y : Bool) → eqb s 0 ≡ x → eqb r 0 ≡ y → Sums (s + r) (j + 1)
        go true true ex ey =
            let es = eqb-true s 0 ex in
            let er = eqb-true r 0 ey in
            let z : s + r ≡ 0 = omega arith in
            record { none = λ q. rw (← next) (numbers_next ns i m top n en room j (i + j) (inv.none es) refl more (get_or ns (i + j) 0) (o.none er) refl); some = λ d. absurd (d z) }
        go true false ex ey =
            let es = eqb-true s 0 ex in
            let dr = eqb-false r 0 ey in
            record { none = λ q. absurd (dr (omega arith)); some = λ d. numbers_bad ns i m top n en room j (i + j) (inv.none es) refl more (get_or ns (i + j) 0) (o.some dr) refl }
        go false y ex ey =
            let ds = eqb-false s 0 ex in
            record { none = λ q. absurd (ds (omega arith)); some = λ d. inv.some ds }

    pub sums_test : (s j : ℕ) → Sums s j → m ≤ j → j ≤ m → eqb s 0 ≡ leb (reach (take_many (take_below top) m) ns i) (length ns)
    sums_test s j inv h g = go (eqb s 0) refl
      where
        go : (c : Bool) → eqb s 0 ≡ c → c ≡ leb (reach (take_many (take_below top) m) ns i) (length ns)
        go true e =
            let l = numbers_done ns i m top n en room j (i + j) (inv.none (eqb-true s 0 e)) refl h g in
            sym (le-leb (reach (take_many (take_below top) m) ns i) (length ns) (omega arith))
        go false e =
            let l = inv.some (eqb-false s 0 e) in
            sym (lt-leb (reach (take_many (take_below top) m) ns i) (length ns) (omega arith))

pub sum_next : (s r j top v : ℕ) → s ≤ 281474976710656 * j → Over top v r → s + r ≤ 281474976710656 * (j + 1)
sum_next s r j top v h o = let x = o.small in omega arith

pub field_two : field_top 65536 ≡ true
unfolding field_top either
field_two = refl

pub field_six : field_top 281474976710656 ≡ true
unfolding field_top either
field_six = refl
