-- A loop over parts of k bytes that writes c bytes for each: what is left to write makes what is there the whole.
-- Assumes nothing.
use Prim.Native.Nat.{ℕ, zero, suc, ◌+◌, ◌-◌, ◌*◌, ◌/◌, ◌%◌, ◌^◌, ◌<◌, ◌≤◌}
use mathlib.Core.List.{List, [], ◌∷◌, flat_map, append-nil}
use mathlib.Core.Path.{◌≡◌, refl, sym, ap, ◌∙◌}
use native.Mathlib.Nat.{add-zero, pow-suc, mod-eq_of_lt, mul-add-mod_self_right, mod-add-div, mul-le-mul_left}
use native.Mathlib.Omega.{arith}
use lib.ListN.{length, take, drop, length-drop, take-append-drop}
use lib.Seq.{drop-drop}
use Rattle.std.proofs.Math.Pow.{pow-lt}
use Rattle.numbers.specs.Bytes.{AreBytes, num, bytes_of, parts}
use Rattle.numbers.proofs.Bytes.{length-bytes_of, num-add, num_part_lt}
use Rattle.numbers.proofs.Parts.{parts_end, parts_more}
use Rattle.frame_copy.specs.Areas.{pasted}
use Rattle.frame_copy.proofs.Copying.{paste_next}
use Rattle.hello.specs.Area.{nickname_numbers}
use Rattle.hello_words.specs.Words.{record_words, number_word}
use Rattle.hello_words.proofs.Words.{length-words}

pub paste_none : (o : List ℕ) (at : ℕ) → pasted o at [] ≡ o
unfolding pasted
paste_none o at = rw (add-zero at, append-nil (take at o)) (take-append-drop at o)

-- what is written so far and what is left of it
unfoldable pub Left : ℕ → ℕ → (List ℕ → List ℕ) → List ℕ → ℕ → List ℕ → ℕ → List ℕ
Left k c f v at o i = pasted o (at + c * i) (flat_map f (parts k (drop (k * i) v)))

module _ (k : ℕ) (some : 0 < k) (c : ℕ) (f : List ℕ → List ℕ) (long : (b : List ℕ) → length (f b) ≡ c) (v : List ℕ) (at : ℕ) where
  pub left_none : (out : List ℕ) → Left k c f v at out 0 ≡ pasted out at (flat_map f (parts k v))
  unfolding Left
  left_none out =
      let a : at + c * 0 ≡ at = omega arith in
      let b : k * 0 ≡ 0 = omega arith in
      rw (a, b)

  pub left_next : (o u : List ℕ) (i : ℕ) → at + c * i ≤ length o → k * i + k ≤ length v → u ≡ pasted o (at + c * i) (f (take k (drop (k * i) v))) → Left k c f v at u (i + 1) ≡ Left k c f v at o i
  unfolding Left flat_map
  left_next o u i room more e =
      let d = length-drop (k * i) v in
      let x : List ℕ = f (take k (drop (k * i) v)) in
      let l : length x ≡ c = long (take k (drop (k * i) v)) in
      let a : k * (i + 1) ≡ k * i + k = omega arith in
      let b : at + c * i + length x ≡ at + c * (i + 1) = omega arith in
      let p : parts k (drop (k * i) v) ≡ take k (drop (k * i) v) ∷ parts k (drop (k * i + k) v) = parts_more k some (drop (k * i) v) (omega arith) ∙ rw (drop-drop k (k * i) v) in
      rw (e, a, p) (paste_next o x (flat_map f (parts k (drop (k * i + k) v))) (at + c * i) (at + c * (i + 1)) room b)

  pub left_done : (o : List ℕ) (i : ℕ) → length v ≡ k * i → Left k c f v at o i ≡ o
  unfolding Left flat_map
  left_done o i h =
      let d = length-drop (k * i) v in
      rw (parts_end k some (drop (k * i) v) (omega arith)) (paste_none o (at + c * i))

record_long : (b : List ℕ) → length (record_words b) ≡ 24
unfolding record_words nickname_numbers
record_long b = length-words _

number_long : (b : List ℕ) → length (number_word b) ≡ 8
unfolding number_word
number_long b = length-bytes_of 8 (num b)

-- ---- the records of a nickname sub-TLV, the first by itself

module _ (v out : List ℕ) (at n : ℕ) (en : n ≡ length v / 5) (whole : length v % 5 ≡ 0) where
  pub records_empty : n < 1 → out ≡ pasted out at (flat_map record_words (parts 5 v))
  records_empty h = sym (left_done 5 (omega arith) 24 record_words record_long v at out 0 (omega arith)) ∙ left_none 5 (omega arith) 24 record_words record_long v at out

  module _ (room : at + 24 * (length v / 5) ≤ length out) (some : 1 ≤ n) (o : List ℕ) (eo : o ≡ pasted out at (record_words (take 5 v))) where
    records_first : Left 5 24 record_words v at o 1 ≡ pasted out at (flat_map record_words (parts 5 v))
    records_first =
        let a : at + 24 * 0 ≡ at = omega arith in
        left_next 5 (omega arith) 24 record_words record_long v at out o 0 (omega arith) (omega arith) (eo ∙ rw a) ∙ left_none 5 (omega arith) 24 record_words record_long v at out

    module _ (q : List ℕ) (i : ℕ) (inv : Left 5 24 record_words v at q i ≡ Left 5 24 record_words v at o 1) where
      pub records_done : i ≤ n → n ≤ i → q ≡ pasted out at (flat_map record_words (parts 5 v))
      records_done h g = sym (left_done 5 (omega arith) 24 record_words record_long v at q i (omega arith)) ∙ inv ∙ records_first

module _ (v o : List ℕ) (at n i : ℕ) (x : List ℕ) (en : n ≡ length v / 5) (inv : Left 5 24 record_words v at o i ≡ x) where
  pub records_next : at + 24 * n ≤ length o → i < n → (u : List ℕ) → u ≡ pasted o (at + 24 * i) (record_words (take 5 (drop (5 * i) v))) → Left 5 24 record_words v at u (i + 1) ≡ x
  records_next room more u e = left_next 5 (omega arith) 24 record_words record_long v at o u i (omega arith) (omega arith) e ∙ inv

-- ---- numbers behind the first k bytes of a value

module _ (k : ℕ) (some : 0 < k) (f : ℕ) (v : List ℕ) (at : ℕ) where
  numbers_next : (o : List ℕ) (i : ℕ) (x : List ℕ) → Left k 8 number_word (drop f v) at o i ≡ x → at + 8 * i + 8 ≤ length o → f + k * i + k ≤ length v → (a : ℕ) → a ≡ num (take k (drop (f + k * i) v)) → (u : List ℕ) → u ≡ pasted o (at + 8 * i) (bytes_of 8 a) → Left k 8 number_word (drop f v) at u (i + 1) ≡ x
  unfolding number_word
  numbers_next o i x inv room more a ea u e =
      let d = length-drop f v in
      left_next k some 8 number_word number_long (drop f v) at o u i (omega arith) (omega arith) (e ∙ rw (ea, drop-drop (k * i) f v)) ∙ inv

  numbers_done : (o : List ℕ) (i : ℕ) (x : List ℕ) → Left k 8 number_word (drop f v) at o i ≡ x → length v ≡ f + k * i → o ≡ x
  numbers_done o i x inv h =
      let d = length-drop f v in
      sym (left_done k some 8 number_word number_long (drop f v) at o i (omega arith)) ∙ inv

  pub numbers_none : (out : List ℕ) → Left k 8 number_word (drop f v) at out 0 ≡ pasted out at (flat_map number_word (parts k (drop f v)))
  numbers_none out = left_none k some 8 number_word number_long (drop f v) at out

module _ (v out : List ℕ) (at n : ℕ) (en : n ≡ (length v - 2) / 2) (some : 2 ≤ length v) (whole : length v % 2 ≡ 0) where
  pub roots_empty : n < 1 → out ≡ pasted out at (flat_map number_word (parts 2 (drop 2 v)))
  roots_empty h = numbers_done 2 (omega arith) 2 v at out 0 _ (numbers_none 2 (omega arith) 2 v at out) (omega arith)

  module _ (room : at + 8 * ((length v - 2) / 2) ≤ length out) (one : 1 ≤ n) (a : ℕ) (ea : a ≡ num (take 2 (drop 2 v))) (o : List ℕ) (eo : o ≡ pasted out at (bytes_of 8 a)) where
    roots_first : Left 2 8 number_word (drop 2 v) at o 1 ≡ pasted out at (flat_map number_word (parts 2 (drop 2 v)))
    roots_first =
        let z : at + 8 * 0 ≡ at = omega arith in
        numbers_next 2 (omega arith) 2 v at out 0 _ (numbers_none 2 (omega arith) 2 v at out) (omega arith) (omega arith) a ea o (eo ∙ rw z)

    pub roots_one : n < 2 → o ≡ pasted out at (flat_map number_word (parts 2 (drop 2 v)))
    roots_one h = numbers_done 2 (omega arith) 2 v at o 1 _ roots_first (omega arith)

    module _ (two : 2 ≤ n) (same : length o ≡ length out) (b : ℕ) (eb : b ≡ num (take 2 (drop 4 v))) (p : List ℕ) (ep : p ≡ pasted o (at + 8) (bytes_of 8 b)) where
      roots_second : Left 2 8 number_word (drop 2 v) at p 2 ≡ pasted out at (flat_map number_word (parts 2 (drop 2 v)))
      roots_second = numbers_next 2 (omega arith) 2 v at o 1 _ roots_first (omega arith) (omega arith) b eb p ep

      pub roots_all : (q : List ℕ) → q ≡ pasted p (at + 16) (flat_map number_word (parts 2 (drop 6 v))) → q ≡ pasted out at (flat_map number_word (parts 2 (drop 2 v)))
      unfolding Left
      roots_all q eq = eq ∙ rw (← drop-drop 4 2 v) roots_second

module _ (k : ℕ) (some : 0 < k) (v : List ℕ) (f at i n : ℕ) (en : n ≡ (length v - f) / k) (o : List ℕ) (x : List ℕ) (inv : Left k 8 number_word (drop f v) at o i ≡ x) where
  pub list_next : f ≤ length v → at + 8 * n ≤ length o → i < n → (a : ℕ) → a ≡ num (take k (drop (f + k * i) v)) → (u : List ℕ) → u ≡ pasted o (at + 8 * i) (bytes_of 8 a) → Left k 8 number_word (drop f v) at u (i + 1) ≡ x
  list_next inside room more a ea u e =
      let h : i + 1 ≤ n = omega arith in
      let m = mul-le-mul_left k h in
      let c : k * n ≡ k * ((length v - f) / k) = ap (λ (y : ℕ). k * y) en in
      let d = mod-add-div (length v - f) k in
      numbers_next k some f v at o i x inv (omega arith) (omega arith) a ea u e

  pub list_done : f ≤ length v → (length v - f) % k ≡ 0 → i ≤ n → n ≤ i → o ≡ x
  list_done inside whole h g =
      let e : i ≡ (length v - f) / k = omega arith in
      let c : k * i ≡ k * ((length v - f) / k) = ap (λ (y : ℕ). k * y) e in
      let d = mod-add-div (length v - f) k in
      numbers_done k some f v at o i x inv (omega arith)

-- ---- the last bytes of eight

power : (b : ℕ) → 256 ^ b ≡ 2 ^ (8 * b)
power zero = refl
power (suc b) =
    let i = power b in
    let e : 8 * suc b ≡ suc (suc (suc (suc (suc (suc (suc (suc (8 * b)))))))) = omega arith in
    rw (e, pow-suc 256 b) (omega arith)

pub last_bytes : (b : ℕ) (v : List ℕ) (k x : ℕ) → AreBytes v → b ≤ 6 → 8 ≤ k + b → k + b ≤ length v → x ≡ num (take 8 (drop (k + b - 8) v)) → x % (1 * 2 ^ (8 * b) % 18446744073709551616) ≡ num (take b (drop k v))
last_bytes b v k x bytes few h room e =
    let m : ℕ = k + b - 8 in
    let s : m + (8 - b) ≡ k = omega arith in
    let t : 8 - b + b ≡ 8 = omega arith in
    let a = num-add v m (8 - b) b (omega arith) in
    let r = num_part_lt v k b bytes room in
    let p = pow-lt {i = 8 * b} {j = 64} (omega arith) in
    let q : 1 * 2 ^ (8 * b) % 18446744073709551616 ≡ 256 ^ b = ap (λ (y : ℕ). y % 18446744073709551616) (omega arith) ∙ mod-eq_of_lt p ∙ sym (power b) in
    let c : x ≡ num (take (8 - b) (drop m v)) * 256 ^ b + num (take b (drop k v)) = e ∙ ap (λ (y : ℕ). num (take y (drop m v))) (sym t) ∙ a ∙ ap (λ (y : ℕ). num (take (8 - b) (drop m v)) * 256 ^ b + num (take b (drop y v))) s in
    rw (q, c, mul-add-mod_self_right) (mod-eq_of_lt r)
