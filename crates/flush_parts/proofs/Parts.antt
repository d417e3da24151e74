-- Laws of parts: a part means an interval, and a bit map lies in one.
-- Assumes nothing.
use Prim.Native.Nat.{ℕ, suc, ◌+◌, ◌-◌, ◌*◌, ◌%◌, ◌^◌, ◌≤◌, ◌<◌}
use mathlib.Core.Bool.{Bool, true, false}
use mathlib.Core.List.{List}
use mathlib.Core.Path.{◌≡◌, refl, sym, ◌∙◌}
use native.Mathlib.Decide.{dec_lt}
use native.Mathlib.Nat.{mod-lt}
use native.Mathlib.Omega.{arith}
use lib.Dec.{leb}
use borrow.Author.Tests.{leb-true}
use lib.ListN.{length, take, drop, length-drop}
use lib.Seq.{drop-drop}
use Rattle.numbers.specs.Tests.{pick, both, between}
use Rattle.numbers.specs.Bytes.{num}
use Rattle.numbers.specs.Numberings.{number_of, at_least, at_most, start_of, end_of, in_block, bit_at, map_bits, in_map}
use Rattle.numbers.proofs.Truth.{both_true, between_is, false_true}
use Rattle.numbers.proofs.Widths.{bit_past}
use Rattle.numbers.specs.declared.Numbering.{Numbering}
use Rattle.flush_members.proofs.Laws.{Near, item_near, block_near}
use Rattle.flush_sets.proofs.Adding.{leb_next, one_is}
use Rattle.flush_parts.specs.Parts.{Narrow, span_for, low_for, past_for, hit_for}

-- ---- a part means an interval

pub hit_is : (t : Bool) (w : Numbering) (x : ℕ) (b : List ℕ) → hit_for t w x b ≡ both (leb (low_for t w b) x) (leb (suc x) (past_for t w b))
unfolding hit_for low_for past_for in_block between
hit_is true w x b = rw (leb_next x (end_of w b) (leb x (end_of w b)) refl)
hit_is false w x b = sym (one_is (number_of w b) x _ _ refl refl)

pub hit_near : (t : Bool) (w : Numbering) (x : ℕ) → Near (span_for t w) (hit_for t w x)
unfolding hit_for span_for
hit_near true w x = block_near w x
hit_near false w x = item_near w x

-- a number alone ends where it starts
pub single_past : (w : Numbering) (b : List ℕ) (x : ℕ) → x ≡ low_for false w b → x + 1 ≡ past_for false w b
unfolding low_for past_for
single_past w b x e = rw e

-- ---- bounds

number_small : (w : Numbering) (b : List ℕ) → Narrow w → number_of w b < 2 ^ 48
unfolding number_of
number_small w b h =
    let p : num (take w.size b) % w.modulus < w.modulus = mod-lt (num (take w.size b)) h.sound.modulus_some in
    let q = h.modulus_le in
    omega arith

pick_small : (t : Bool) (a b m : ℕ) → a < m → b < m → pick t a b < m
unfolding pick
pick_small true a b m h g = h
pick_small false a b m h g = g

-- ---- the parts at a place

pub block_span : (t : Bool) (w : Numbering) → t ≡ true → 2 * w.size ≡ span_for t w
unfolding span_for
block_span t w h = rw h

pub item_span : (t : Bool) (w : Numbering) → t ≡ false → w.size ≡ span_for t w
unfolding span_for
item_span t w h = rw h

module _ (t : Bool) (w : Numbering) (at m : ℕ) (room : at + span_for t w ≤ m) where
  pub first_room : at + w.size ≤ m
  unfolding span_for
  first_room = go t room
    where
      go : (t : Bool) → at + span_for t w ≤ m → at + w.size ≤ m
      go true h = omega arith
      go false h = h

  pub second_room : t ≡ true → at + w.size + w.size ≤ m
  unfolding span_for
  second_room h = let r : at + span_for true w ≤ m = rw h at room in omega arith

pub start_fits : (w : Numbering) (b : List ℕ) (n r : ℕ) → Narrow w → n ≡ number_of w b → r ≡ at_least w.low n → r < 2 ^ 48
unfolding at_least
start_fits w b n r narrow en e = rw e (pick_small (leb w.low n) n w.low (2 ^ 48) (rw en (number_small w b narrow)) narrow.low_le)

pub number_fits : (w : Numbering) (b : List ℕ) (n : ℕ) → Narrow w → n ≡ number_of w b → n < 2 ^ 48
number_fits w b n narrow e = rw e (number_small w b narrow)

module _ (t : Bool) (w : Numbering) (narrow : Narrow w) (v : List ℕ) (at : ℕ) where
  module _ (n : ℕ) (en : n ≡ number_of w (drop at v)) where
    pub item_low : t ≡ false → n ≡ low_for t w (drop at v)
    unfolding low_for
    item_low h = rw h en

    pub item_past : t ≡ false → n + 1 ≡ past_for t w (drop at v)
    unfolding past_for
    item_past h = rw (h, en)

    pub block_low : t ≡ true → (r : ℕ) → r ≡ at_least w.low n → r ≡ low_for t w (drop at v)
    unfolding low_for start_of
    block_low h r e = e ∙ rw (h, en)

  pub block_past : t ≡ true → (n r : ℕ) → n ≡ number_of w (drop (at + w.size) v) → r ≡ at_most w.high n → r + 1 ≡ past_for t w (drop at v)
  unfolding past_for end_of
  block_past h n r en e = rw (h, e, en, drop-drop w.size at v)

-- the number after an end is small, too
pub end_fits : (w : Numbering) (b : List ℕ) (n r : ℕ) → Narrow w → n ≡ number_of w b → r ≡ at_most w.high n → r + 1 ≤ 2 ^ 48
unfolding at_most
end_fits w b n r narrow en e =
    let h : r < 2 ^ 48 = rw e (pick_small (leb n w.high) n w.high (2 ^ 48) (rw en (number_small w b narrow)) narrow.high_le) in
    omega arith

pub item_fits : (w : Numbering) (b : List ℕ) (n : ℕ) → Narrow w → n ≡ number_of w b → n + 1 ≤ 2 ^ 48
item_fits w b n narrow e = let h : n < 2 ^ 48 = number_fits w b n narrow e in omega arith

-- ---- a bit map lies in an interval

module _ (w : Numbering) (v : List ℕ) (x : ℕ) (h : in_map w x v ≡ true) where
  in_parts : (between w.low w.high x ≡ true) × ((number_of w v ≤ x) × (bit_at (x - number_of w v) (map_bits w v) ≡ true))
  unfolding in_map
  in_parts =
      let p = both_true (leb w.size (length v)) _ h in
      let q = both_true (between w.low w.high x) _ p.1 in
      let r = both_true (leb (number_of w v) x) _ q.1 in
      (q.0, (leb-true (number_of w v) x r.0, r.1))

  pub map_above : (n : ℕ) → n ≡ number_of w (drop 0 v) → n ≤ x
  map_above n e = rw e in_parts.1.0

  pub map_highest : x < w.high + 1
  map_highest = let p = between_is w.low w.high x in_parts.0 in omega (arith, p.1)

  pub map_below : (n : ℕ) → n ≡ number_of w (drop 0 v) → w.size ≤ length v → x < n + 8 * (length v - w.size)
  map_below n e room = rw e (go (dec_lt x (number_of w v + 8 * (length v - w.size))))
    where
      go : Dec (x < number_of w v + 8 * (length v - w.size)) → x < number_of w v + 8 * (length v - w.size)
      go (yes d) = d
      go (no d) =
          let long : length (map_bits w v) ≡ length v - w.size = length-drop w.size v in
          let p = in_parts.1 in
          let far = p.0 in
          false_true (sym (bit_past (x - number_of w v) (map_bits w v) (omega arith)) ∙ p.1)

-- ---- the interval is small

pub high_fits : (w : Numbering) → Narrow w → w.high + 1 < 2 ^ 52
high_fits w narrow = let h = narrow.high_le in omega arith

pub map_fits : (w : Numbering) (b : List ℕ) (n k : ℕ) → Narrow w → n ≡ number_of w b → k ≤ 255 → n + 8 * k < 2 ^ 52
map_fits w b n k narrow e few = let h : n < 2 ^ 48 = number_fits w b n narrow e in omega arith
