-- What one sub-TLV, a TLV and a payload bring, as words.
-- Assumes nothing.
use Prim.Native.Nat.{ℕ, ◌+◌, ◌-◌, ◌*◌, ◌/◌, ◌%◌, ◌≤◌}
use mathlib.Core.Bool.{Bool, true, false}
use mathlib.Core.List.{List, [], ◌∷◌, ◌++◌, map, flat_map, append-nil}
use mathlib.Core.Path.{◌≡◌, refl, sym, ap, ◌∙◌}
use native.Mathlib.Omega.{arith}
use lib.Dec.{leb, eqb}
use lib.ListN.{length, drop, length-append}
use borrow.Author.Tests.{eq-eqb, ne_eqb, eqb-true, eqb-false, leb-true, leb-false}
use Rattle.numbers.specs.Bytes.{bytes_of, parts}
use Rattle.numbers.specs.After.{OnArea, on_area}
use Rattle.numbers.specs.Tests.{pick, both, either}
use Rattle.numbers.proofs.Bytes.{length-bytes_of}
use Rattle.numbers.proofs.Truth.{both_true}
use Rattle.frame_copy.specs.Areas.{pasted}
use Rattle.hello.specs.Tlvs.{Tlv, tlv, stump, tlvs}
use Rattle.hello.specs.Reading.{items, parameters_of, nickname_of, trees_of, smart_mac_of}
use Rattle.hello.specs.Area.{counted, parameters_numbers, nickname_numbers, trees_numbers, smart_mac_numbers}
use Rattle.hello_count.specs.Sections.{brought, joined, section, holder_for, body_at, sub_numbers, tlv_numbers}
use Rattle.hello_count.proofs.Subs.{one-joined, got_22, got_6, got_8, got_23, numbers_22, zero_22, numbers_6, zero_6, numbers_8, zero_8, zero_8_short, numbers_23, zero_23, zero_23_short}
use Rattle.hello_count.proofs.Levels.{flat_flat, none_numbers, joined_level, body_numbers, other_numbers, stump_numbers, tlv_stump_numbers}
use Rattle.hello_words.specs.Words.{words}
use Rattle.hello_words.proofs.Words.{length-words}
use Rattle.hello_words.proofs.Parts.{paste_none}
use Rattle.hello_fill.specs.declared.Pens.{Pens}
use Rattle.hello_fill.specs.Filling.{sub_words, tlv_words, section_words, put_two, filling, Room, is_read, Beside}
use Rattle.hello_fill.proofs.Apart.{two_none, two_areas}
use Rattle.hello_fill.proofs.Walks.{Free}

words_none : (ns : List ℕ) → length ns ≡ 0 → words ns ≡ []
unfolding words flat_map
words_none [] h = refl
words_none (n ∷ ns) h = absurd (omega arith)

sub-length : (k : ℕ) (t : Tlv) → length (sub_words k t) ≡ 8 * length (sub_numbers k t)
unfolding sub_words
sub-length k t = length-words (sub_numbers k t)

-- ---- a sub-TLV of a type

module _ (k : ℕ) (v out : List ℕ) (at n : ℕ) (en : n ≡ length (sub_numbers k (tlv k v))) where
  pub bad_put : n ≡ 0 → out ≡ pasted out at (sub_words k (tlv k v))
  unfolding sub_words
  bad_put z = sym (ap (pasted out at) (words_none (sub_numbers k (tlv k v)) (sym en ∙ z)) ∙ paste_none out at)

  pub put_end : at + 8 * n ≡ at + length (sub_words k (tlv k v))
  put_end = let l = sub-length k (tlv k v) in omega arith

  pub bad_end : n ≡ 0 → at ≡ at + length (sub_words k (tlv k v))
  bad_end z = let e = put_end in omega arith

  pub words_fit : at + length (sub_words k (tlv k v)) ≤ length out → at + 8 * n ≤ length out
  words_fit h = let e = put_end in omega arith

-- a length that the type allows
module _ (k : ℕ) (v : List ℕ) (some : length (sub_numbers k (tlv k v)) ≡ 0 → ⊥) (out : List ℕ) (at : ℕ) (room : at + length (sub_words k (tlv k v)) ≤ length out) where
  module _ (e : k ≡ 22) where
    pub four : length v ≡ 4
    four = go (eqb (length v) 4) refl
      where
        go : (b : Bool) → eqb (length v) 4 ≡ b → length v ≡ 4
        go true f = eqb-true (length v) 4 f
        go false f = absurd (some (rw e (sym (zero_22 v (eqb-false (length v) 4 f)))))

    pub room_22 : at + 16 ≤ length out
    room_22 = let r = rw e at room in let l = sub-length 22 (tlv 22 v) in let m = numbers_22 v four in omega arith

    pub puts_22 : (u : List ℕ) → u ≡ pasted out at (words (parameters_numbers (parameters_of v))) → u ≡ pasted out at (sub_words k (tlv k v))
    unfolding sub_words
    puts_22 u p = p ∙ rw (e, one-joined 22 (tlv 22 v) _ (got_22 v four))

  module _ (e : k ≡ 6) where
    pub fives : length v % 5 ≡ 0
    fives = go (eqb (length v % 5) 0) refl
      where
        go : (b : Bool) → eqb (length v % 5) 0 ≡ b → length v % 5 ≡ 0
        go true f = eqb-true (length v % 5) 0 f
        go false f = absurd (some (rw e (sym (zero_6 v (eqb-false (length v % 5) 0 f)))))

    pub room_6 : at + 8 * (1 + 3 * (length v / 5)) ≤ length out
    room_6 = let r = rw e at room in let l = sub-length 6 (tlv 6 v) in let m = numbers_6 v fives in omega arith

    pub puts_6 : (u : List ℕ) → u ≡ pasted out at (words (counted nickname_numbers (map nickname_of (parts 5 v)))) → u ≡ pasted out at (sub_words k (tlv k v))
    unfolding sub_words
    puts_6 u p = p ∙ rw (e, one-joined 6 (tlv 6 v) _ (got_6 v fives))

  module _ (e : k ≡ 8) where
    pub two : 2 ≤ length v
    two = go (leb 2 (length v)) refl
      where
        go : (b : Bool) → leb 2 (length v) ≡ b → 2 ≤ length v
        go true f = leb-true 2 (length v) f
        go false f = absurd (some (rw e (sym (zero_8_short v (leb-false 2 (length v) f)))))

    pub twos : length v % 2 ≡ 0
    twos = go (eqb (length v % 2) 0) refl
      where
        go : (b : Bool) → eqb (length v % 2) 0 ≡ b → length v % 2 ≡ 0
        go true f = eqb-true (length v % 2) 0 f
        go false f = absurd (some (rw e (sym (zero_8 v two (eqb-false (length v % 2) 0 f)))))

    pub room_8 : at + 8 * (2 + (length v - 2) / 2) ≤ length out
    room_8 = let r = rw e at room in let l = sub-length 8 (tlv 8 v) in let m = numbers_8 v two twos in omega arith

    pub puts_8 : (u : List ℕ) → u ≡ pasted out at (words (trees_numbers (trees_of v))) → u ≡ pasted out at (sub_words k (tlv k v))
    unfolding sub_words
    puts_8 u p = p ∙ rw (e, one-joined 8 (tlv 8 v) _ (got_8 v two twos))

  module _ (e : k ≡ 23) where
    pub mac_long : 4 ≤ length v
    mac_long = go (leb 4 (length v)) refl
      where
        go : (c : Bool) → leb 4 (length v) ≡ c → 4 ≤ length v
        go true f = leb-true 4 (length v) f
        go false f = absurd (some (rw e (sym (zero_23_short v (leb-false 4 (length v) f)))))

    pub sixes : (length v - 4) % 6 ≡ 0
    sixes = go (eqb ((length v - 4) % 6) 0) refl
      where
        go : (c : Bool) → eqb ((length v - 4) % 6) 0 ≡ c → (length v - 4) % 6 ≡ 0
        go true f = eqb-true ((length v - 4) % 6) 0 f
        go false f = absurd (some (rw e (sym (zero_23 v mac_long (eqb-false ((length v - 4) % 6) 0 f)))))

    pub room_23 : at + 8 * (4 + (length v - 4) / 6) ≤ length out
    room_23 = let r = rw e at room in let l = sub-length 23 (tlv 23 v) in let m = numbers_23 v mac_long sixes in omega arith

    pub puts_23 : (u : List ℕ) → u ≡ pasted out at (words (smart_mac_numbers (smart_mac_of v))) → u ≡ pasted out at (sub_words k (tlv k v))
    unfolding sub_words
    puts_23 u p = p ∙ rw (e, one-joined 23 (tlv 23 v) _ (got_23 v mac_long sixes))

-- one that is read, and none of the other three
pub read_last : (k : ℕ) → is_read k ≡ true → (k ≡ 22 → ⊥) → (k ≡ 6 → ⊥) → (k ≡ 8 → ⊥) → k ≡ 23
unfolding is_read either
read_last k h a b c = eqb-true k 23 (rw (ne_eqb k 22 a, ne_eqb k 6 b, ne_eqb k 8 c) at h)

-- ---- at two pens

other_words : (k j : ℕ) (v : List ℕ) → (j ≡ k → ⊥) → sub_words k (tlv j v) ≡ []
unfolding sub_words
other_words k j v other = words_none (sub_numbers k (tlv j v)) (sym (none_numbers k j v other))

module _ (k m : ℕ) (types : Beside k m) (j : ℕ) (v o : List ℕ) (p : Pens) where
  pub put_first : j ≡ k → (u : List ℕ) (r : ℕ) → u ≡ pasted o p.first (sub_words k (tlv k v)) → r ≡ p.first + length (sub_words k (tlv k v)) → on_area (record { first = r; second = p.second }) u ≡ filling (sub_words k) (sub_words m) (on_area p o) (tlv j v)
  unfolding filling put_two
  put_first same u r eu er =
      let b : p.second + length {A = ℕ} [] ≡ p.second = omega arith in
      rw (other_words m j v (λ f. types.apart (sym same ∙ f)), b, paste_none (pasted o p.first (sub_words k (tlv j v))) p.second, same, eu, er)

  pub put_second : j ≡ m → (u : List ℕ) (r : ℕ) → u ≡ pasted o p.second (sub_words m (tlv m v)) → r ≡ p.second + length (sub_words m (tlv m v)) → on_area (record { first = p.first; second = r }) u ≡ filling (sub_words k) (sub_words m) (on_area p o) (tlv j v)
  unfolding filling put_two
  put_second same u r eu er =
      let b : p.first + length {A = ℕ} [] ≡ p.first = omega arith in
      rw (other_words k j v (λ f. types.apart (sym f ∙ same)), b, paste_none o p.first, same, eu, er)

  pub put_neither : (j ≡ k → ⊥) → (j ≡ m → ⊥) → on_area p o ≡ filling (sub_words k) (sub_words m) (on_area p o) (tlv j v)
  unfolding filling
  put_neither d e = rw (other_words k j v d, other_words m j v e) (two_none (on_area p o))

-- ---- the levels

pub stump_words : (k : ℕ) → sub_words k stump ≡ []
unfolding sub_words words flat_map
stump_words k = rw (stump_numbers k)

pub tlv_stump_words : (k : ℕ) → tlv_words k stump ≡ []
unfolding tlv_words words flat_map
tlv_stump_words k = rw (tlv_stump_numbers k)

tlv_none : (k h : ℕ) (v : List ℕ) (r : ℕ) → r ≡ holder_for k → (h ≡ r → ⊥) → tlv_words k (tlv h v) ≡ []
unfolding tlv_words
tlv_none k h v r er apart = words_none (tlv_numbers k (tlv h v)) (sym (other_numbers k h v r er apart))

tlv_body : (k h : ℕ) (v : List ℕ) (r : ℕ) → r ≡ holder_for k → h ≡ r → (w : List ℕ) → w ≡ drop (body_at r v) v → flat_map (sub_words k) (tlvs w) ≡ tlv_words k (tlv h v)
unfolding tlv_words sub_words words
tlv_body k h v r er same w ew = rw (ew, ← same) (sym (ap words (body_numbers k h v r er same) ∙ flat_flat (bytes_of 8) (sub_numbers k) (tlvs (drop (body_at h v) v))))

-- a TLV that holds two types, k and m
module _ (k m : ℕ) (types : Beside k m) (r : ℕ) (held : r ≡ holder_for k) (h : ℕ) (v o : List ℕ) (p : Pens) where
  also : r ≡ holder_for m
  also = held ∙ types.together

  pub skip_two : (h ≡ r → ⊥) → on_area p o ≡ filling (tlv_words k) (tlv_words m) (on_area p o) (tlv h v)
  unfolding filling
  skip_two apart = rw (tlv_none k h v r held apart, tlv_none m h v r also apart) (two_none (on_area p o))

  module _ (same : h ≡ r) (s : ℕ) (es : s ≡ body_at r v) (w : List ℕ) (ew : w ≡ drop s v) where
    pub room_two : Room (tlv_words k (tlv h v)) (tlv_words m (tlv h v)) p (length o) → Room (flat_map (sub_words k) (tlvs w)) (flat_map (sub_words m) (tlvs w)) p (length o)
    room_two g = rw (tlv_body k h v r held same w (ew ∙ rw es), tlv_body m h v r also same w (ew ∙ rw es)) g

    pub body_two : (q : Pens) (u : List ℕ) → on_area q u ≡ put_two (flat_map (sub_words k) (tlvs w)) (flat_map (sub_words m) (tlvs w)) (on_area p o) → on_area q u ≡ filling (tlv_words k) (tlv_words m) (on_area p o) (tlv h v)
    unfolding filling
    body_two q u e = e ∙ rw (tlv_body k h v r held same w (ew ∙ rw es), tlv_body m h v r also same w (ew ∙ rw es))

-- a TLV that is none of type 242 is read as one of type 251
pub body_other : (h : ℕ) (v : List ℕ) → (h ≡ 242 → ⊥) → (n : ℕ) → n ≡ body_at 251 v → n ≡ body_at h v
unfolding body_at pick
body_other h v d n e = e ∙ rw (ne_eqb h 242 d)

-- an empty TLV of another kind
not_held : (b : Bool) (j : ℕ) → (j ≡ 242 → ⊥) → (j ≡ 251 → ⊥) → j ≡ pick b 251 242 → ⊥
unfolding pick
not_held true j d e f = e f
not_held false j d e f = d f

pub free : (k : ℕ) → Free (tlv_words k)
free k j d e = tlv_none k j [] (holder_for k) refl (not_held (either (eqb k 22) (eqb k 23)) j d e)

-- the two pairs of types
pub beside_242 : Beside 6 8 × (242 ≡ holder_for 6)
unfolding is_read either pick
beside_242 = (record { first = refl; second = refl; apart = λ e. omega arith; together = refl }, refl)

pub beside_251 : Beside 22 23 × (251 ≡ holder_for 22)
unfolding is_read either pick
beside_251 = (record { first = refl; second = refl; apart = λ e. omega arith; together = refl }, refl)

-- ---- a section

empty : {A : Type 0} (xs : List A) → length xs ≡ 0 → xs ≡ []
empty [] h = refl
empty (x ∷ xs) h = absurd (omega arith)

module _ (k : ℕ) (l : List ℕ) (n : ℕ) (en : n ≡ length (flat_map (brought k) (items l))) where
  section-words : section_words k (items l) ≡ bytes_of 8 n ++ flat_map (tlv_words k) (tlvs l)
  unfolding section_words section words tlv_words flat_map
  section-words = rw (← en, joined_level k l) (ap (λ (x : List ℕ). bytes_of 8 n ++ x) (flat_flat (bytes_of 8) (tlv_numbers k) (tlvs l)))

  section-length : length (section_words k (items l)) ≡ 8 + length (flat_map (tlv_words k) (tlvs l))
  section-length = let a = ap length section-words in let b = length-bytes_of 8 n in let c = length-append (bytes_of 8 n) (flat_map (tlv_words k) (tlvs l)) in omega arith

  -- where there is none, the count is all
  nothing-brought : n ≡ 0 → flat_map (tlv_words k) (tlvs l) ≡ []
  unfolding tlv_words words joined flat_map
  nothing-brought z =
      let e : flat_map (brought k) (items l) ≡ [] = empty (flat_map (brought k) (items l)) (sym en ∙ z) in
      sym (flat_flat (bytes_of 8) (tlv_numbers k) (tlvs l)) ∙ ap words (sym (joined_level k l) ∙ ap joined e)

  count-alone : n ≡ 0 → section_words k (items l) ≡ bytes_of 8 n
  count-alone z = section-words ∙ ap (λ (x : List ℕ). bytes_of 8 n ++ x) (nothing-brought z) ∙ append-nil (bytes_of 8 n)

pub section_size : (k : ℕ) (l : List ℕ) → length (section_words k (items l)) ≡ 8 + length (flat_map (tlv_words k) (tlvs l))
section_size k l = section-length k l (length (flat_map (brought k) (items l))) refl

-- two sections
module _ (k m : ℕ) (l : List ℕ) (n t : ℕ) (en : n ≡ length (flat_map (brought k) (items l))) (et : t ≡ length (flat_map (brought m) (items l)))
    (out : List ℕ) (a b : ℕ) (first : a + length (section_words k (items l)) ≤ b) (second : b + length (section_words m (items l)) ≤ length out) where
  pub count_first : a + 8 ≤ length out
  count_first = let x = section-length k l n en in omega arith

  pub count-second : (o : List ℕ) → length o ≡ length out → b + 8 ≤ length o
  count-second o same = let y = section-length m l t et in omega arith

  module _ (o u : List ℕ) (eo : o ≡ pasted out a (bytes_of 8 n)) (eu : u ≡ pasted o b (bytes_of 8 t)) where
    counts_put : (w z : List ℕ) → section_words k (items l) ≡ bytes_of 8 n ++ w → section_words m (items l) ≡ bytes_of 8 t ++ z → pasted (pasted u (a + 8) w) (b + 8) z ≡ pasted (pasted out a (section_words k (items l))) b (section_words m (items l))
    counts_put w z ew ez =
        let i = length-bytes_of 8 n in
        let j = length-bytes_of 8 t in
        let c = ap length ew in
        let d = ap length ez in
        let e : a + 8 ≡ a + length (bytes_of 8 n) = omega arith in
        let f : b + 8 ≡ b + length (bytes_of 8 t) = omega arith in
        rw (eu, eo, e, f, ew, ez) (two_areas out (bytes_of 8 n) (bytes_of 8 t) w z a b (omega arith) (omega arith))

    pub sections_put : (q : Pens) (y : List ℕ) → on_area q y ≡ put_two (flat_map (tlv_words k) (tlvs l)) (flat_map (tlv_words m) (tlvs l)) (on_area (record { first = a + 8; second = b + 8 }) u) → y ≡ pasted (pasted out a (section_words k (items l))) b (section_words m (items l))
    unfolding put_two
    sections_put q y e = ap (λ (s : OnArea Pens). s.area) e ∙ counts_put _ _ (section-words k l n en) (section-words m l t et)

    pub sections_empty : (r : Bool) → r ≡ both (eqb n 0) (eqb t 0) → r ≡ true → u ≡ pasted (pasted out a (section_words k (items l))) b (section_words m (items l))
    sections_empty r er is =
        let z = both_true (eqb n 0) (eqb t 0) (sym er ∙ is) in
        eu ∙ rw (eo, count-alone k l n en (eqb-true n 0 z.0), count-alone m l t et (eqb-true t 0 z.1))

pub zero_not : (n t : ℕ) → (n ≡ 0 → ⊥) → false ≡ both (eqb n 0) (eqb t 0)
unfolding both
zero_not n t d = rw (ne_eqb n 0 d)

pub zero_then : (n t : ℕ) → n ≡ 0 → eqb t 0 ≡ both (eqb n 0) (eqb t 0)
unfolding both
zero_then n t e = rw (eq-eqb n 0 e)
