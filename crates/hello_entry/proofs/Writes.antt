-- Bytes put into an area: the last bytes of a number, the elements of a list one after the other, and the parts of a sub-TLV.
-- Assumes nothing.
use Prim.Native.Nat.{ℕ, zero, suc, ◌+◌, ◌-◌, ◌*◌, ◌/◌, ◌%◌, ◌^◌, ◌<◌, ◌≤◌}
use mathlib.Core.Bool.{Bool, true, false}
use mathlib.Core.List.{List, [], ◌∷◌, ◌++◌, append-nil, append_assoc}
use mathlib.Core.Path.{◌≡◌, refl, sym, ap, ◌∙◌}
use native.Mathlib.Nat.{add-zero, zero-add, suc-add, mul-le-mul_left}
use native.Mathlib.Omega.{arith}
use lib.Dec.{leb, ltb, eqb}
use lib.ListN.{length, take, drop, get_or, length-append, length-drop, take-append-drop}
use lib.Seq.{take_at, drop_at, drop-append-add, drop-drop, get_or-drop, length-take-le}
use borrow.Author.Tests.{leb-true, ltb-true}
use Rattle.numbers.specs.Tests.{pick, both}
use Rattle.numbers.specs.Bytes.{num, bytes_of, AreBytes}
use Rattle.numbers.proofs.Bytes.{length-bytes_of, take-bytes_of, num_part_lt, num-add, bytes_of_low, bytes_of_part, bytes_of-append, bytes_of_join}
use Rattle.numbers.proofs.Lists.{part_prefix}
use Rattle.numbers.proofs.Truth.{both_true}
use Rattle.frame_copy.specs.Areas.{pasted}
use Rattle.frame_copy.proofs.Copying.{paste_next}
use Rattle.hello.specs.Tlvs.{tlv_bytes}
use Rattle.hello.specs.Writing.{nickname_bytes, label_top}
use Rattle.hello_area.specs.Entries.{numbers_in, label_good, label_bytes, parameters_bytes}
use Rattle.hello_ends.proofs.Numbers.{numbers_length, number_is}
use Rattle.hello_entry.specs.Bytes.{parameters_at, nickname_at, label_at, record_at, number_at, run, with_mac, four_macs}
use Rattle.hello_entry.proofs.Plain.{length_run}
use Rattle.hello_entry.proofs.Shape.{number_long, record_long}

-- ---- places

pub number_fits : (area : List ℕ) (i k n : ℕ) → i + k ≤ length (numbers_in area) → length area < 2 ^ 64 → n ≤ k → i + n < 2 ^ 64
number_fits area i k n h big g = let l = numbers_length area in omega arith

pub place_fits : (area : List ℕ) (i k r n : ℕ) → i + k + r ≤ length (numbers_in area) → length area < 2 ^ 64 → n ≤ k → i + n < 2 ^ 64
place_fits area i k r n h big g = let l = numbers_length area in omega arith

module _ (area : List ℕ) (i : ℕ) (there : i < length (numbers_in area)) where
  pub eight_fits : length area < 2 ^ 64 → 8 * i < 2 ^ 64
  eight_fits big = let l = numbers_length area in omega arith

  module _ (b : ℕ) (few : b ≤ 8) where
    pub low_inside : 8 * i + (8 - b) + b ≤ length area
    low_inside = let l = numbers_length area in omega arith

    pub low_fits : length area < 2 ^ 64 → 8 * i + (8 - b) < 2 ^ 64
    low_fits big = let l = numbers_length area in omega arith

module _ (area : List ℕ) (i : ℕ) (there : i + 4 ≤ length (numbers_in area)) (n : ℕ) (few : n ≤ 24) where
  pub four_fits : length area < 2 ^ 64 → 8 * i + n < 2 ^ 64
  four_fits big = let l = numbers_length area in omega arith

  pub four_inside : 8 * i + n + 8 ≤ length area
  four_inside = let l = numbers_length area in omega arith

pub first_fits : (area : List ℕ) (i : ℕ) → i + 4 ≤ length (numbers_in area) → length area < 2 ^ 64 → 8 * i < 2 ^ 64
first_fits area i h big = let l = numbers_length area in omega arith

pub last_fits : (area : List ℕ) (i m n : ℕ) → i + m ≤ length (numbers_in area) → length area < 2 ^ 64 → i + (m - n) < 2 ^ 64
last_fits area i m n h big = let l = numbers_length area in omega arith

pub macs_fit : (area : List ℕ) (i m k s : ℕ) → s ≡ m - 1 → k ≤ s / 4 → i + m ≤ length (numbers_in area) → length area < 2 ^ 64 → i + 4 * k < 2 ^ 64
macs_fit area i m k s es few h big = let l = numbers_length area in omega arith

pub trees_fit : (area : List ℕ) (i m k : ℕ) → 4 ≤ m → k < (m - 4 + 3) / 4 → i + m ≤ length (numbers_in area) → length area < 2 ^ 64 → i + 4 * k < 2 ^ 64
trees_fit area i m k four few h big = let l = numbers_length area in omega arith

pub near_fits : (area : List ℕ) (i n : ℕ) → i + 4 ≤ length (numbers_in area) → n ≤ 4 → length area < 2 ^ 64 → i + n < 2 ^ 64
near_fits area i n h few big = let l = numbers_length area in omega arith

module _ (area : List ℕ) (i m j : ℕ) (more : j < m) where
  pub item_fits : i + m ≤ length (numbers_in area) → length area < 2 ^ 64 → i + j < 2 ^ 64
  item_fits h big = let l = numbers_length area in omega arith

  pub record_fits : i + 3 * m ≤ length (numbers_in area) → length area < 2 ^ 64 → i + 3 * j < 2 ^ 64
  record_fits h big = let l = numbers_length area in omega arith

  pub triple_fits : i + 3 * m ≤ length (numbers_in area) → length area < 2 ^ 64 → 3 * j < 2 ^ 64
  triple_fits h big = let l = numbers_length area in omega arith

-- ---- one behind the other

pub paste_none : (o : List ℕ) (at : ℕ) → pasted o at [] ≡ o
unfolding pasted
paste_none o at = rw (add-zero at, append-nil (take at o)) (take-append-drop at o)

-- bytes behind bytes of a known length
behind : (out o u x y : List ℕ) (at k : ℕ) → at ≤ length out → length x ≡ k → o ≡ pasted out at x → u ≡ pasted o (at + k) y → u ≡ pasted out at (x ++ y)
behind out o u x y at k h e p q = q ∙ rw p (paste_next out x y at (at + k) h (omega arith))

-- bytes over the first of others
paste_over : (o g y : List ℕ) (p : ℕ) → p ≤ length o → length g ≤ length y → pasted (pasted o p g) p y ≡ pasted o p y
unfolding pasted
paste_over o g y p h few =
    let t : List ℕ = take p o in
    let d : List ℕ = drop (p + length g) o in
    let front : length t ≡ p = length-take-le p o h in
    let first : take p ((t ++ g) ++ d) ≡ t = rw (append_assoc t g d) (take_at t (g ++ d) p front) in
    let l = length-append t g in
    let sum : p + length y ≡ length (t ++ g) + (length y - length g) = omega arith in
    let end : p + length g + (length y - length g) ≡ p + length y = omega arith in
    let last : drop (p + length y) ((t ++ g) ++ d) ≡ drop (p + length y) o =
    ap (λ (n : ℕ). drop n ((t ++ g) ++ d)) sum
    ∙ drop-append-add (t ++ g) d (length y - length g)
    ∙ drop-drop (length y - length g) (p + length g) o
    ∙ ap (λ (n : ℕ). drop n o) end in
    rw (first, last)

paste_long : (o x : List ℕ) (a : ℕ) → a ≤ length o → a + length x ≤ length (pasted o a x)
unfolding pasted
paste_long o x a h =
    let t = length-take-le a o h in
    let l = length-append (take a o) x in
    let k = length-append (take a o ++ x) (drop (a + length x) o) in
    omega arith

paste_same : (o x : List ℕ) (a : ℕ) → a + length x ≤ length o → length (pasted o a x) ≡ length o
unfolding pasted
paste_same o x a h =
    let t = length-take-le a o (omega arith) in
    let d = length-drop (a + length x) o in
    let l = length-append (take a o) x in
    let k = length-append (take a o ++ x) (drop (a + length x) o) in
    omega arith

-- bytes behind others, over those that were too many
paste_past : (o x g y : List ℕ) (a k : ℕ) → a ≤ length o → a + length x ≡ k → length g ≤ length y → pasted (pasted o a (x ++ g)) k y ≡ pasted o a (x ++ y)
paste_past o x g y a k h e few =
    let l = paste_long o x a h in
    rw (← paste_next o x g a k h e) (paste_over (pasted o a x) g y k (omega arith) few ∙ paste_next o x y a k h e)

pub four_put : (ns : List ℕ) (i : ℕ) (o : List ℕ) (at : ℕ) (u v w z : List ℕ) → u ≡ with_mac ns i o at → v ≡ with_mac ns (i + 1) u (at + 6) → w ≡ with_mac ns (i + 2) v (at + 12) → z ≡ with_mac ns (i + 3) w (at + 18) → z ≡ four_macs ns i o at
unfolding four_macs
four_put ns i o at u v w z p q r s = s ∙ rw (r, q, p)

-- ---- a list

-- what is there with what is left of it
unfoldable pub Left : (ℕ → List ℕ) → ℕ → ℕ → ℕ → ℕ → List ℕ → ℕ → ℕ → List ℕ
Left f w b i m o at j = pasted o (at + b * j) (run f w (i + w * j) (m - j))

module _ (f : ℕ → List ℕ) (w b : ℕ) (long : (j : ℕ) → length (f j) ≡ b) (i m at : ℕ) where
  left_none : (out : List ℕ) → Left f w b i m out at 0 ≡ pasted out at (run f w i m)
  unfolding Left
  left_none out =
      let x : at + b * 0 ≡ at = omega arith in
      let y : i + w * 0 ≡ i = omega arith in
      let z : m - 0 ≡ m = omega arith in
      rw (x, y, z)

  left_next : (o u : List ℕ) (j : ℕ) → at + b * j ≤ length o → j < m → u ≡ pasted o (at + b * j) (f (i + w * j)) → Left f w b i m u at (j + 1) ≡ Left f w b i m o at j
  unfolding Left run
  left_next o u j room more e =
      let l = long (i + w * j) in
      let x : at + b * j + length (f (i + w * j)) ≡ at + b * (j + 1) = omega arith in
      let y : i + w * (j + 1) ≡ i + w * j + w = omega arith in
      let z : m - j ≡ suc (m - (j + 1)) = omega arith in
      rw (e, z, y) (paste_next o (f (i + w * j)) (run f w (i + w * j + w) (m - (j + 1))) (at + b * j) (at + b * (j + 1)) room x)

  left_past : (o u g : List ℕ) (j : ℕ) → at + b * j ≤ length o → j < m → length g ≤ b * (m - (j + 1)) → u ≡ pasted o (at + b * j) (f (i + w * j) ++ g) → Left f w b i m u at (j + 1) ≡ Left f w b i m o at j
  unfolding Left run
  left_past o u g j room more few e =
      let l = long (i + w * j) in
      let r = length_run f w b long (m - (j + 1)) (i + w * j + w) in
      let x : at + b * j + length (f (i + w * j)) ≡ at + b * (j + 1) = omega arith in
      let y : i + w * (j + 1) ≡ i + w * j + w = omega arith in
      let z : m - j ≡ suc (m - (j + 1)) = omega arith in
      rw (e, z, y) (paste_past o (f (i + w * j)) g (run f w (i + w * j + w) (m - (j + 1))) (at + b * j) (at + b * (j + 1)) room x (omega arith))

  left_done : (o : List ℕ) (j : ℕ) → m ≤ j → Left f w b i m o at j ≡ o
  unfolding Left run
  left_done o j h =
      let z : m - j ≡ 0 = omega arith in
      rw z (paste_none o (at + b * j))

-- the low bytes of a number, and others that are 0
wide_six : (v : ℕ) → bytes_of 8 (v % 0x1_0000_0000_0000 * 0x1_0000) ≡ bytes_of 6 v ++ bytes_of 2 0
wide_six v =
    let e : v ≡ v / 0x1_0000_0000_0000 * 256 ^ 6 + v % 0x1_0000_0000_0000 = omega arith in
    ap (bytes_of 8) (sym (add-zero (v % 0x1_0000_0000_0000 * 0x1_0000))) ∙ bytes_of_join 6 2 (v % 0x1_0000_0000_0000) 0 (omega arith) ∙ ap (λ (l : List ℕ). l ++ bytes_of 2 0) (sym (bytes_of_low 6 (v / 0x1_0000_0000_0000) (v % 0x1_0000_0000_0000)) ∙ ap (bytes_of 6) (sym e))

pub mac_put : (ns : List ℕ) (i v : ℕ) → v ≡ get_or ns i 0 → (o u : List ℕ) (at : ℕ) → u ≡ pasted o at (bytes_of 8 (v % 0x1_0000_0000_0000 * 0x1_0000)) → u ≡ pasted o at (number_at 6 ns i ++ bytes_of 2 0)
unfolding number_at
mac_put ns i v ev o u at e = e ∙ ap (pasted o at) (wide_six v) ∙ rw ev

-- the last bytes of the eight of a number
module _ (area : List ℕ) (bytes : AreBytes area) (i : ℕ) (there : i < length (numbers_in area)) where
  eight : bytes_of 8 (get_or (numbers_in area) i 0) ≡ take 8 (drop (8 * i) area)
  eight =
      let n = numbers_length area in
      let d = length-drop (8 * i) area in
      ap (bytes_of 8) (sym (number_is area i there (num (take 8 (drop (8 * i) area))) refl))
      ∙ bytes_of_part (drop (8 * i) area) 8 (λ j. rw (get_or-drop (8 * i) area j 0) (bytes (8 * i + j))) (omega arith)

  low_bytes_lem : (a b : ℕ) → a + b ≡ 8 → take b (drop (8 * i + a) area) ≡ number_at b (numbers_in area) i
  unfolding number_at
  low_bytes_lem a b sum =
      let v : ℕ = get_or (numbers_in area) i 0 in
      let n = numbers_length area in
      let d = length-drop (8 * i) area in
      let e : take 8 (drop (8 * i) area) ≡ bytes_of a (v / 256 ^ b) ++ bytes_of b v = sym eight ∙ ap (λ (x : ℕ). bytes_of x v) (sym sum) ∙ bytes_of-append a b v in
      ap (take b) (sym (drop-drop a (8 * i) area))
      ∙ part_prefix (drop (8 * i) area) a b 8 (omega arith) (omega arith)
      ∙ ap (λ (l : List ℕ). take b (drop a l)) e
      ∙ ap (take b) (drop_at (bytes_of a (v / 256 ^ b)) (bytes_of b v) a (length-bytes_of a (v / 256 ^ b)))
      ∙ take-bytes_of b v

  pub low_put : (b : ℕ) → b ≤ 8 → (out u x : List ℕ) (at : ℕ) → x ≡ take b (drop (8 * i + (8 - b)) area) → u ≡ pasted out at x → u ≡ pasted out at (number_at b (numbers_in area) i)
  low_put b few out u x at ex eu = eu ∙ ap (pasted out at) (ex ∙ low_bytes_lem (8 - b) b (omega arith))

-- numbers of b bytes
module _ (ns : List ℕ) (i m : ℕ) (out : List ℕ) (at : ℕ) where
  pub numbers_none : (b : ℕ) → Left (number_at b ns) 1 b i m out at 0 ≡ pasted out at (run (number_at b ns) 1 i m)
  numbers_none b = left_none (number_at b ns) 1 b (number_long b ns) i m at out

  pub numbers_empty : (b : ℕ) → m ≡ 0 → out ≡ pasted out at (run (number_at b ns) 1 i m)
  unfolding run
  numbers_empty b e = rw e (sym (paste_none out at))

  module _ (b : ℕ) (o : List ℕ) (j : ℕ) (same : length o ≡ length out) (room : at + b * m ≤ length out) (inv : Left (number_at b ns) 1 b i m o at j ≡ pasted out at (run (number_at b ns) 1 i m)) where
    place : i + j ≡ i + 1 * j
    place = omega arith

    within_out : j < m → at + b * j ≤ length o
    within_out more = let h : j ≤ m = omega arith in let x = mul-le-mul_left b h in omega arith

    pub numbers_next : j < m → (u : List ℕ) → u ≡ pasted o (at + b * j) (number_at b ns (i + j)) → Left (number_at b ns) 1 b i m u at (j + 1) ≡ pasted out at (run (number_at b ns) 1 i m)
    numbers_next more u e = left_next (number_at b ns) 1 b (number_long b ns) i m at o u j (within_out more) more (e ∙ ap (λ (x : ℕ). pasted o (at + b * j) (number_at b ns x)) place) ∙ inv

    number_past : j < m → (g : List ℕ) → length g ≤ b * (m - (j + 1)) → (u : List ℕ) → u ≡ pasted o (at + b * j) (number_at b ns (i + j) ++ g) → Left (number_at b ns) 1 b i m u at (j + 1) ≡ pasted out at (run (number_at b ns) 1 i m)
    number_past more g few u e = left_past (number_at b ns) 1 b (number_long b ns) i m at o u g j (within_out more) more few (e ∙ ap (λ (x : ℕ). pasted o (at + b * j) (number_at b ns x ++ g)) place) ∙ inv

    pub numbers_done : m ≤ j → o ≡ pasted out at (run (number_at b ns) 1 i m)
    numbers_done h = sym (left_done (number_at b ns) 1 b (number_long b ns) i m at o j h) ∙ inv

  module _ (o : List ℕ) (j : ℕ) (same : length o ≡ length out) (room : at + 6 * m ≤ length out) (inv : Left (number_at 6 ns) 1 6 i m o at j ≡ pasted out at (run (number_at 6 ns) 1 i m)) where
    -- as eight bytes
    pub macs_past : j < m - 1 → (u : List ℕ) → u ≡ pasted o (at + 6 * j) (number_at 6 ns (i + j) ++ bytes_of 2 0) → Left (number_at 6 ns) 1 6 i m u at (j + 1) ≡ pasted out at (run (number_at 6 ns) 1 i m)
    macs_past two u e =
        let l = length-bytes_of 2 0 in
        number_past 6 o j same room inv (omega arith) (bytes_of 2 0) (omega arith) u e

    -- the last one as it is
    pub macs_last : j < m → m - 1 ≤ j → (u : List ℕ) → u ≡ pasted o (at + 6 * (m - 1)) (number_at 6 ns (i + (m - 1))) → u ≡ pasted out at (run (number_at 6 ns) 1 i m)
    macs_last more h u e =
        let z : m - 1 ≡ j = omega arith in
        let n = numbers_next 6 o j same room inv more u (e ∙ ap (λ (x : ℕ). pasted o (at + 6 * x) (number_at 6 ns (i + x))) z) in
        sym (left_done (number_at 6 ns) 1 6 (number_long 6 ns) i m at u (j + 1) (omega arith)) ∙ n

  -- four of them, one behind the other
  mac_step : (o : List ℕ) (j k a x : ℕ) → j + 1 ≡ k → a ≡ at + 6 * j → x ≡ i + j → length o ≡ length out → at + 6 * m ≤ length out → Left (number_at 6 ns) 1 6 i m o at j ≡ pasted out at (run (number_at 6 ns) 1 i m) → k ≤ m - 1 → (u : List ℕ) → u ≡ with_mac ns x o a → (length u ≡ length out) × (Left (number_at 6 ns) 1 6 i m u at k ≡ pasted out at (run (number_at 6 ns) 1 i m))
  mac_step o j k a x e ea ex same room inv far u p =
      let q : u ≡ with_mac ns (i + j) o (at + 6 * j) = p ∙ rw (ea, ex) in
      let l = number_long 6 ns (i + j) in
      let z = length-bytes_of 2 0 in
      let b = length-append (number_at 6 ns (i + j)) (bytes_of 2 0) in
      (ap length q ∙ paste_same o (number_at 6 ns (i + j) ++ bytes_of 2 0) (at + 6 * j) (omega arith) ∙ same, rw (← e) (macs_past o j same room inv (omega arith) u q))

  macs_four : (o : List ℕ) (j : ℕ) → length o ≡ length out → at + 6 * m ≤ length out → Left (number_at 6 ns) 1 6 i m o at j ≡ pasted out at (run (number_at 6 ns) 1 i m) → j + 4 < m → (u : List ℕ) → u ≡ four_macs ns (i + j) o (at + 6 * j) → Left (number_at 6 ns) 1 6 i m u at (j + 4) ≡ pasted out at (run (number_at 6 ns) 1 i m)
  unfolding four_macs
  macs_four o j same room inv far u e =
      let p = with_mac ns (i + j) o (at + 6 * j) in
      let q = with_mac ns (i + j + 1) p (at + 6 * j + 6) in
      let r = with_mac ns (i + j + 2) q (at + 6 * j + 12) in
      let a = mac_step o j (j + 1) (at + 6 * j) (i + j) refl refl refl same room inv (omega arith) p refl in
      let b = mac_step p (j + 1) (j + 2) (at + 6 * j + 6) (i + j + 1) (omega arith) (omega arith) (omega arith) a.0 room a.1 (omega arith) q refl in
      let c = mac_step q (j + 2) (j + 3) (at + 6 * j + 12) (i + j + 2) (omega arith) (omega arith) (omega arith) b.0 room b.1 (omega arith) r refl in
      (mac_step r (j + 3) (j + 4) (at + 6 * j + 18) (i + j + 3) (omega arith) (omega arith) (omega arith) c.0 room c.1 (omega arith) u e).1

  pub macs_on : (o : List ℕ) (k : ℕ) → length o ≡ length out → at + 6 * m ≤ length out → Left (number_at 6 ns) 1 6 i m o at (4 * k) ≡ pasted out at (run (number_at 6 ns) 1 i m) → (s : ℕ) → s ≡ m - 1 → k < s / 4 → (u : List ℕ) → u ≡ four_macs ns (i + 4 * k) o (at + 6 * (4 * k)) → Left (number_at 6 ns) 1 6 i m u at (4 * (k + 1)) ≡ pasted out at (run (number_at 6 ns) 1 i m)
  macs_on o k same room inv s es more u e = let q : 4 * (k + 1) ≡ 4 * k + 4 = omega arith in rw q (macs_four o (4 * k) same room inv (omega arith) u e)

  pub macs_few : (o : List ℕ) (k n : ℕ) → k ≤ n → n ≤ k → Left (number_at 6 ns) 1 6 i m o at (4 * k) ≡ pasted out at (run (number_at 6 ns) 1 i m) → (u : List ℕ) → u ≡ pasted o (at + 6 * (4 * n)) (run (number_at 6 ns) 1 (i + 4 * n) (m - 4 * n)) → u ≡ pasted out at (run (number_at 6 ns) 1 i m)
  unfolding Left
  macs_few o k n h g inv u e =
      let q : n ≡ k = omega arith in
      let p : i + 4 * k ≡ i + 1 * (4 * k) = omega arith in
      e ∙ rw (q, p) inv

  -- records
  pub records_none : Left (record_at ns) 3 5 i m out at 0 ≡ pasted out at (run (record_at ns) 3 i m)
  records_none = left_none (record_at ns) 3 5 (record_long ns) i m at out

  pub records_next : (o : List ℕ) (j : ℕ) → j < m → length o ≡ length out → at + 5 * m ≤ length out → Left (record_at ns) 3 5 i m o at j ≡ pasted out at (run (record_at ns) 3 i m) → (u : List ℕ) → u ≡ pasted o (at + 5 * j) (record_at ns (i + 3 * j)) → Left (record_at ns) 3 5 i m u at (j + 1) ≡ pasted out at (run (record_at ns) 3 i m)
  records_next o j more same room inv u e = left_next (record_at ns) 3 5 (record_long ns) i m at o u j (omega arith) more e ∙ inv

  pub records_done : (o : List ℕ) (j : ℕ) → Left (record_at ns) 3 5 i m o at j ≡ pasted out at (run (record_at ns) 3 i m) → m ≤ j → o ≡ pasted out at (run (record_at ns) 3 i m)
  records_done o j inv h = sym (left_done (record_at ns) 3 5 (record_long ns) i m at o j h) ∙ inv

-- ---- the record of a nickname

pub record_put : (ns : List ℕ) (i : ℕ) (out : List ℕ) (at : ℕ) → at + 5 ≤ length out → (o u w : List ℕ)
    → o ≡ pasted out at (number_at 1 ns i) → u ≡ pasted o (at + 1) (number_at 2 ns (i + 1)) → w ≡ pasted u (at + 3) (number_at 2 ns (i + 2))
    → w ≡ pasted out at (record_at ns i)
unfolding record_at nickname_bytes nickname_at number_at
record_put ns i out at room o u w eo eu ew =
    let a : List ℕ = number_at 1 ns i in
    let b : List ℕ = number_at 2 ns (i + 1) in
    let d : List ℕ = number_at 2 ns (i + 2) in
    let x = number_long 1 ns i in
    let y = number_long 2 ns (i + 1) in
    let l = length-append a b in
    behind out u w (a ++ b) d at 3 (omega arith) (omega arith) (behind out o u a b at 1 (omega arith) x eo eu) ew
    ∙ ap (pasted out at) (append_assoc a b d)

-- ---- the front of a sub-TLV: type, length, c bytes of a number

two_bytes : (k n : ℕ) → k < 256 → n < 256 → bytes_of 2 (k * 256 + n) ≡ k ∷ (n ∷ [])
unfolding bytes_of
two_bytes k n hk hn =
    let a : (k * 256 + n) / 256 ^ 1 % 256 ≡ k = omega arith in
    let b : (k * 256 + n) / 256 ^ 0 % 256 ≡ n = omega arith in
    rw (a, b)

-- type and length, the bytes in front of the list, and the list
pub tlv_put : (out o p u : List ℕ) (at k n a : ℕ) (x y : List ℕ) → at ≤ length out → k < 256 → n < 256 → length x ≡ a → n ≡ a + length y
    → o ≡ pasted out at (bytes_of 2 (k * 256 + n)) → p ≡ pasted o (at + 2) x → u ≡ pasted p (at + (2 + a)) y
    → u ≡ pasted out at (tlv_bytes k (x ++ y))
unfolding tlv_bytes
tlv_put out o p u at k n a x y room hk hn lx en eo ep eu =
    let l = length-append x y in
    let z : n ≡ length (x ++ y) = omega arith in
    let front : p ≡ pasted out at (k ∷ (n ∷ x)) = behind out o p (k ∷ (n ∷ [])) x at 2 room refl (eo ∙ ap (pasted out at) (two_bytes k n hk hn)) ep in
    behind out p u (k ∷ (n ∷ x)) y at (2 + a) room (omega arith) front eu
    ∙ ap (λ (m : ℕ). pasted out at (k ∷ (m ∷ (x ++ y)))) z

module _ (ns : List ℕ) (i : ℕ) (out : List ℕ) (at : ℕ) (o : List ℕ) where
  pub parameters_written : at + 6 ≤ length out → o ≡ pasted out at (bytes_of 2 0x1604) → (p u : List ℕ) → p ≡ pasted o (at + 2) (number_at 2 ns i) → u ≡ pasted p (at + 4) (number_at 2 ns (i + 1)) → u ≡ pasted out at (tlv_bytes 22 (parameters_bytes (parameters_at ns i)))
  unfolding parameters_bytes parameters_at number_at
  parameters_written room eo p u ep eu =
      let x = number_long 2 ns i in
      let y = number_long 2 ns (i + 1) in
      tlv_put out o p u at 22 4 2 _ _ (omega arith) (omega arith) (omega arith) x (omega arith) eo ep eu

  module _ (m : ℕ) where
    pub nicknames-written : m ≤ 49 → at + (2 + 5 * m) ≤ length out → o ≡ pasted out at (bytes_of 2 (0x600 + 5 * m)) → (u : List ℕ) → u ≡ pasted o (at + 2) (run (record_at ns) 3 (i + 1) m) → u ≡ pasted out at (tlv_bytes 6 (run (record_at ns) 3 (i + 1) m))
    nicknames-written few room eo u eu =
        let l = length_run (record_at ns) 3 5 (record_long ns) m (i + 1) in
        let v : 0x600 + 5 * m ≡ 6 * 256 + 5 * m = omega arith in
        tlv_put out o o u at 6 (5 * m) 0 [] _ (omega arith) (omega arith) (omega arith) refl (omega arith) (eo ∙ ap (λ (n : ℕ). pasted out at (bytes_of 2 n)) v) (sym (paste_none o (at + 2))) eu

    pub trees_written : m ≤ 123 → at + (4 + 2 * m) ≤ length out → o ≡ pasted out at (bytes_of 2 (0x802 + 2 * m)) → (p u : List ℕ) → p ≡ pasted o (at + 2) (number_at 2 ns i) → u ≡ pasted p (at + 4) (run (number_at 2 ns) 1 (i + 2) m) → u ≡ pasted out at (tlv_bytes 8 (number_at 2 ns i ++ run (number_at 2 ns) 1 (i + 2) m))
    trees_written few room eo p u ep eu =
        let l = length_run (number_at 2 ns) 1 2 (number_long 2 ns) m (i + 2) in
        let v : 0x802 + 2 * m ≡ 8 * 256 + (2 + 2 * m) = omega arith in
        tlv_put out o p u at 8 (2 + 2 * m) 2 _ _ (omega arith) (omega arith) (omega arith) (number_long 2 ns i) (omega arith) (eo ∙ ap (λ (n : ℕ). pasted out at (bytes_of 2 n)) v) ep eu

    pub macs-written : m ≤ 41 → at + (6 + 6 * m) ≤ length out → o ≡ pasted out at (bytes_of 2 (0x1704 + 6 * m)) → (w : ℕ) → bytes_of 4 w ≡ label_bytes (label_at ns i) → (p u : List ℕ) → p ≡ pasted o (at + 2) (bytes_of 4 w) → u ≡ pasted p (at + 6) (run (number_at 6 ns) 1 (i + 4) m) → u ≡ pasted out at (tlv_bytes 23 (label_bytes (label_at ns i) ++ run (number_at 6 ns) 1 (i + 4) m))
    macs-written few room eo w ew p u ep eu =
        let l = length_run (number_at 6 ns) 1 6 (number_long 6 ns) m (i + 4) in
        let v : 0x1704 + 6 * m ≡ 23 * 256 + (4 + 6 * m) = omega arith in
        tlv_put out o p u at 23 (4 + 6 * m) 4 _ _ (omega arith) (omega arith) (omega arith) (length-bytes_of 4 w) (omega arith) (eo ∙ ap (λ (n : ℕ). pasted out at (bytes_of 2 n)) v) ep eu
        ∙ ap (λ (x : List ℕ). pasted out at (tlv_bytes 23 (x ++ run (number_at 6 ns) 1 (i + 4) m))) ew

-- ---- the label of a Smart-MAC

top_small : (f : ℕ) → label_top f ≤ 16777216
unfolding pick
top_small f = go (eqb f 1)
  where
    go : (c : Bool) → pick c 16777216 4096 ≤ 16777216
    go true = omega arith
    go false = omega arith

module _ (ns : List ℕ) (i : ℕ) (good : label_good (label_at ns i) ≡ true) where
  label_small : (get_or ns i 0 ≤ 1) × ((get_or ns (i + 1) 0 ≤ 1) × (get_or ns (i + 2) 0 < 16777216))
  unfolding label_good label_at
  label_small =
      let a = both_true (leb (get_or ns i 0) 1) (both (leb (get_or ns (i + 1) 0) 1) (ltb (get_or ns (i + 2) 0) (label_top (get_or ns i 0)))) good in
      let b = both_true (leb (get_or ns (i + 1) 0) 1) (ltb (get_or ns (i + 2) 0) (label_top (get_or ns i 0))) a.1 in
      let t = ltb-true (get_or ns (i + 2) 0) (label_top (get_or ns i 0)) b.1 in
      let s = top_small (get_or ns i 0) in
      (leb-true (get_or ns i 0) 1 a.0, (leb-true (get_or ns (i + 1) 0) 1 b.0, omega arith))

  pub multihomed_fits : (m : ℕ) → m ≡ get_or ns (i + 1) 0 → m * 0x4000_0000 < 2 ^ 64
  multihomed_fits m em = let s = label_small in omega arith

  module _ (f : ℕ) (ef : f ≡ get_or ns i 0) where
    pub fine_fits : f * 0x8000_0000 < 2 ^ 64
    fine_fits = let s = label_small in omega arith

    module _ (m : ℕ) (em : m ≡ get_or ns (i + 1) 0) where
      pub multihomed_behind : f * 0x8000_0000 + m * 0x4000_0000 < 2 ^ 64
      multihomed_behind = let s = label_small in omega arith

      module _ (n : ℕ) (en : n ≡ get_or ns (i + 2) 0) where
        pub label_behind : f * 0x8000_0000 + m * 0x4000_0000 + n < 2 ^ 64
        label_behind = let s = label_small in omega arith

        pub label_is : bytes_of 4 (f * 0x8000_0000 + m * 0x4000_0000 + n) ≡ label_bytes (label_at ns i)
        unfolding label_bytes label_at
        label_is = let e : f * 0x8000_0000 + m * 0x4000_0000 + n ≡ get_or ns i 0 * 2 ^ 31 + (get_or ns (i + 1) 0 * 2 ^ 30 + get_or ns (i + 2) 0) = omega arith in ap (bytes_of 4) e

-- ---- four tree nicknames at a time

-- bytes as the number of a part of eight
module _ (area : List ℕ) (bytes : AreBytes area) where
  abbrev pair : ℕ → ℕ
  pair k = num (take 2 (drop k area))

  abbrev part : ℕ → ℕ → ℕ
  part n k = num (take n (drop k area))

  first_pair : (k : ℕ) → k + 8 ≤ length area → part 8 k / 0x1_0000_0000_0000 ≡ pair k
  first_pair k h =
      let a = num-add area k 2 6 (omega arith) in
      let x = num_part_lt area (k + 2) 6 bytes (omega arith) in
      omega arith

  second_pair : (k : ℕ) → k + 8 ≤ length area → part 8 k / 0x1_0000_0000 % 0x1_0000 ≡ pair (k + 2)
  second_pair k h =
      let a = num-add area k 2 6 (omega arith) in
      let b = num-add area (k + 2) 2 4 (omega arith) in
      let x = num_part_lt area (k + 2) 2 bytes (omega arith) in
      let y = num_part_lt area (k + 2 + 2) 4 bytes (omega arith) in
      omega arith

  third_pair : (k : ℕ) → k + 8 ≤ length area → part 8 k / 0x1_0000 % 0x1_0000 ≡ pair (k + 4)
  third_pair k h =
      let a = num-add area k 4 4 (omega arith) in
      let b = num-add area (k + 4) 2 2 (omega arith) in
      let x = num_part_lt area (k + 4) 2 bytes (omega arith) in
      let y = num_part_lt area (k + 4 + 2) 2 bytes (omega arith) in
      omega arith

  fourth_pair : (k : ℕ) → k + 8 ≤ length area → part 8 k % 0x1_0000 ≡ pair (k + 6)
  fourth_pair k h =
      let a = num-add area k 6 2 (omega arith) in
      let x = num_part_lt area (k + 6) 2 bytes (omega arith) in
      omega arith

  -- the last two bytes of a number
  pair_at_lem : (i k : ℕ) → i < length (numbers_in area) → 8 * i + 6 ≡ k → bytes_of 2 (pair k) ≡ number_at 2 (numbers_in area) i
  pair_at_lem i k there e =
      let n = numbers_length area in
      let d = length-drop k area in
      bytes_of_part (drop k area) 2 (λ j. rw (get_or-drop k area j 0) (bytes (k + j))) (omega arith)
      ∙ ap (λ (x : ℕ). take 2 (drop x area)) (sym e)
      ∙ low_bytes_lem area bytes i there 6 2 refl

  four_bytes : (a b c d : ℕ) → b < 65536 → c < 65536 → d < 65536 → bytes_of 8 (a * 0x1_0000_0000_0000 + b * 0x1_0000_0000 + c * 0x1_0000 + d) ≡ bytes_of 2 a ++ (bytes_of 2 b ++ (bytes_of 2 c ++ bytes_of 2 d))
  four_bytes a b c d hb hc hd =
      let e : a * 0x1_0000_0000_0000 + b * 0x1_0000_0000 + c * 0x1_0000 + d ≡ a * 256 ^ 6 + (b * 256 ^ 4 + (c * 256 ^ 2 + d)) = omega arith in
      ap (bytes_of 8) e
      ∙ bytes_of_join 2 6 a (b * 256 ^ 4 + (c * 256 ^ 2 + d)) (omega arith)
      ∙ ap (λ (l : List ℕ). bytes_of 2 a ++ l) (bytes_of_join 2 4 b (c * 256 ^ 2 + d) (omega arith) ∙ ap (λ (l : List ℕ). bytes_of 2 b ++ l) (bytes_of_join 2 2 c d (omega arith)))

  module _ (i : ℕ) (there : i + 4 ≤ length (numbers_in area)) (w x y z : ℕ) (ew : w ≡ part 8 (8 * i + 6)) (ex : x ≡ part 8 (8 * i + 12)) (ey : y ≡ part 8 (8 * i + 18)) (ez : z ≡ part 8 (8 * i + 24)) where
    pub four_are : bytes_of 8 (w / 0x1_0000_0000_0000 * 0x1_0000_0000_0000 + x / 0x1_0000_0000 % 0x1_0000 * 0x1_0000_0000 + y / 0x1_0000 % 0x1_0000 * 0x1_0000 + z % 0x1_0000) ≡ run (number_at 2 (numbers_in area)) 1 i 4
    unfolding run
    four_are =
        let n = numbers_length area in
        let p : w / 0x1_0000_0000_0000 ≡ pair (8 * i + 6) = ap (λ (v : ℕ). v / 0x1_0000_0000_0000) ew ∙ first_pair (8 * i + 6) (omega arith) in
        let q : x / 0x1_0000_0000 % 0x1_0000 ≡ pair (8 * i + 12 + 2) = ap (λ (v : ℕ). v / 0x1_0000_0000 % 0x1_0000) ex ∙ second_pair (8 * i + 12) (omega arith) in
        let r : y / 0x1_0000 % 0x1_0000 ≡ pair (8 * i + 18 + 4) = ap (λ (v : ℕ). v / 0x1_0000 % 0x1_0000) ey ∙ third_pair (8 * i + 18) (omega arith) in
        let s : z % 0x1_0000 ≡ pair (8 * i + 24 + 6) = ap (λ (v : ℕ). v % 0x1_0000) ez ∙ fourth_pair (8 * i + 24) (omega arith) in
        rw (p, q, r, s)
        (four_bytes (pair (8 * i + 6)) (pair (8 * i + 12 + 2)) (pair (8 * i + 18 + 4)) (pair (8 * i + 24 + 6)) (num_part_lt area (8 * i + 12 + 2) 2 bytes (omega arith)) (num_part_lt area (8 * i + 18 + 4) 2 bytes (omega arith)) (num_part_lt area (8 * i + 24 + 6) 2 bytes (omega arith))
        ∙ rw (pair_at_lem i (8 * i + 6) (omega arith) refl, pair_at_lem (i + 1) (8 * i + 12 + 2) (omega arith) (omega arith), pair_at_lem (i + 1 + 1) (8 * i + 18 + 4) (omega arith) (omega arith), pair_at_lem (i + 1 + 1 + 1) (8 * i + 24 + 6) (omega arith) (omega arith), append-nil (number_at 2 (numbers_in area) (i + 1 + 1 + 1))))

-- a list in two parts
run-parts : (f : ℕ → List ℕ) (a b i : ℕ) → run f 1 i (a + b) ≡ run f 1 i a ++ run f 1 (i + a) b
unfolding run
run-parts f zero b i = rw (zero-add b, add-zero i)
run-parts f (suc a) b i =
    let e : i + 1 + a ≡ i + suc a = omega arith in
    rw (suc-add a b, run-parts f a b (i + 1), e) (sym (append_assoc (f i) (run f 1 (i + 1) a) (run f 1 (i + suc a) b)))

module _ (ns : List ℕ) (i m : ℕ) (out : List ℕ) (at : ℕ) (room : at + 2 * m ≤ length out) (o : List ℕ) (j : ℕ) (inv : o ≡ pasted out at (run (number_at 2 ns) 1 i j)) where
  trees_long : (a n : ℕ) → length (run (number_at 2 ns) 1 a n) ≡ 2 * n
  trees_long a n = length_run (number_at 2 ns) 1 2 (number_long 2 ns) n a

  fours_next : (v : ℕ) → bytes_of 8 v ≡ run (number_at 2 ns) 1 (i + j) 4 → (u : List ℕ) → u ≡ pasted o (at + 2 * j) (bytes_of 8 v) → u ≡ pasted out at (run (number_at 2 ns) 1 i (j + 4))
  fours_next v ev u e =
      behind out o u (run (number_at 2 ns) 1 i j) (bytes_of 8 v) at (2 * j) (omega arith) (trees_long i j) inv e
      ∙ ap (pasted out at) (ap (λ (l : List ℕ). run (number_at 2 ns) 1 i j ++ l) ev ∙ sym (run-parts (number_at 2 ns) j 4 i))

  pub fours_on : (k : ℕ) → j ≡ 4 * k → (v : ℕ) → bytes_of 8 v ≡ run (number_at 2 ns) 1 (i + j) 4 → (u : List ℕ) → u ≡ pasted o (at + 2 * j) (bytes_of 8 v) → u ≡ pasted out at (run (number_at 2 ns) 1 i (4 * (k + 1)))
  fours_on k ej v ev u e = let q : 4 * (k + 1) ≡ j + 4 = omega arith in rw q (fours_next v ev u e)

  -- the last four, over some that are there
  fours_last : 4 ≤ m → m - 4 ≤ j → j ≤ m → (v : ℕ) → bytes_of 8 v ≡ run (number_at 2 ns) 1 (i + (m - 4)) 4 → (u : List ℕ) → u ≡ pasted o (at + 2 * (m - 4)) (bytes_of 8 v) → u ≡ pasted out at (run (number_at 2 ns) 1 i m)
  fours_last four past few v ev u e =
      let a : ℕ = m - 4 in
      let b : ℕ = j - (m - 4) in
      let s : a + b ≡ j = omega arith in
      let t : a + 4 ≡ m = omega arith in
      let x : List ℕ = run (number_at 2 ns) 1 i a in
      let g : List ℕ = run (number_at 2 ns) 1 (i + a) b in
      let lx = trees_long i a in
      let lg = trees_long (i + a) b in
      let ly = length-bytes_of 8 v in
      let start : o ≡ pasted out at (x ++ g) = inv ∙ ap (λ (n : ℕ). pasted out at (run (number_at 2 ns) 1 i n)) (sym s) ∙ ap (pasted out at) (run-parts (number_at 2 ns) a b i) in
      e ∙ rw start (paste_past out x g (bytes_of 8 v) at (at + 2 * a) (omega arith) (omega arith) (omega arith))
      ∙ ap (λ (l : List ℕ). pasted out at (x ++ l)) ev
      ∙ ap (pasted out at) (sym (run-parts (number_at 2 ns) a 4 i) ∙ ap (run (number_at 2 ns) 1 i) t)

  pub fours_end : (k : ℕ) → j ≡ 4 * k → 4 ≤ m → (m - 4 + 3) / 4 ≤ k → k ≤ (m - 4 + 3) / 4 → (v : ℕ) → bytes_of 8 v ≡ run (number_at 2 ns) 1 (i + (m - 4)) 4 → (u : List ℕ) → u ≡ pasted o (at + 2 * (m - 4)) (bytes_of 8 v) → u ≡ pasted out at (run (number_at 2 ns) 1 i m)
  fours_end k ej four h g = fours_last four (omega arith) (omega arith)

pub fours_none : (ns out : List ℕ) (i at : ℕ) → out ≡ pasted out at (run (number_at 2 ns) 1 i 0)
unfolding run
fours_none ns out i at = sym (paste_none out at)
