-- Laws of a walk that answers a place. At an offset and a count what is left decides; the place that is found is that of the first, and
-- some place is found exactly if some element passes.
-- Assumes nothing.
use Prim.Native.Nat.{ℕ, suc, ◌+◌, ◌-◌, ◌*◌, ◌%◌, ◌^◌, ◌<◌, ◌≤◌}
use mathlib.Core.Bool.{Bool, true, false, not, ◌&&◌}
use mathlib.Core.List.{List, [], ◌∷◌}
use mathlib.Core.Path.{◌≡◌, refl, sym, ap, ◌∙◌}
use native.Mathlib.Nat.{add-zero}
use native.Mathlib.Numerals.{add-one}
use native.Mathlib.Omega.{arith}
use lib.Dec.{eqb, leb}
use lib.ListN.{length, take, drop, get_or, length-drop}
use lib.Seq.{take_all, drop-drop, get_or-drop}
use borrow.Author.Tests.{ne_eqb, not-true}
use Rattle.numbers.specs.Tests.{pick, both, either, any_of, between}
use Rattle.numbers.specs.Bytes.{num, parts}
use Rattle.numbers.specs.Ranges.{first_vlan, last_vlan}
use Rattle.numbers.specs.Numberings.{vlans, fines, macs, number_of, in_block, in_blocks}
use Rattle.numbers.specs.declared.Numbering.{Numbering}
use Rattle.numbers.proofs.Bytes.{num-one, num-add}
use Rattle.numbers.proofs.Truth.{and_both, between_in, either_none, false_true}
use Rattle.numbers.proofs.Parts.{parts_end, parts_more}
use Rattle.table.specs.declared.Label.{Label}
use Rattle.table.specs.declared.Label.TheVariants.{Vlan, Fine}
use Rattle.flush.specs.Payload.{every_type, Piece, tlv, stump, tlv_end, tlvs, block_bytes}
use Rattle.flush.specs.Meaning.{vlan_in, fine_in, mac_in, brings_label, brings_mac}
use Rattle.flush.proofs.Validity.{tlvs_end, tlvs_rest, tlvs_more}
use Rattle.why.specs.Why.{place_of}
use Rattle.flush_members.specs.Sound.{Sound}
use Rattle.flush_members.proofs.Laws.{block_tells, blocks_below, blocks_above}
use Rattle.why_places.specs.Found.{first_from}
use Rattle.why_places.specs.Reading.{LastByte, EmptyAt}
use Rattle.std.specs.Prelude.{Option, Some, None}

-- ---- a place that is found

module _ {A : Type 0} (p : A → Bool) where
  by_head : (b : Bool) (k n : ℕ) (more : Bool) (rest : Option ℕ) → rest ≡ pick more (Some (suc k + n)) None → pick b (Some k) rest ≡ pick (either b more) (Some (k + pick b 0 (suc n))) None
  unfolding pick either
  by_head true k n more rest e = rw (add-zero k)
  by_head false k n more rest e = let next : suc k + n ≡ k + suc n = omega arith in e ∙ ap (λ (j : ℕ). pick more (Some j) None) next

  first_is : (k : ℕ) (xs : List A) → first_from p k xs ≡ pick (any_of p xs) (Some (k + place_of p xs)) None
  unfolding first_from any_of place_of pick
  first_is k [] = refl
  first_is k (x ∷ xs) = by_head (p x) k (place_of p xs) (any_of p xs) _ (first_is (suc k) xs)

  picked_at : (b : Bool) (n i : ℕ) → pick b (Some n) None ≡ Some i → (b ≡ true) × (i ≡ n)
  unfolding pick
  picked_at true n i h = (refl, (cc))
  picked_at false n i h = let z : ◌≡◌ {A = ℕ} 0 1 = cc in absurd (omega arith)

  picked_none : (b : Bool) (n : ℕ) → pick b (Some n) None ≡ None → b ≡ false
  unfolding pick
  picked_none true n h = let z : ◌≡◌ {A = ℕ} 0 1 = cc in absurd (omega arith)
  picked_none false n h = refl

  module _ (xs : List A) (r : Option ℕ) (found : r ≡ first_from p 0 xs) where
    pub found_at : (i : ℕ) → r ≡ Some i → (any_of p xs ≡ true) × (i ≡ place_of p xs)
    found_at i h =
        let (some, place) = picked_at (any_of p xs) (0 + place_of p xs) i (sym (first_is 0 xs) ∙ sym found ∙ h) in
        (some, omega arith)

    pub found_none : r ≡ None → any_of p xs ≡ false
    found_none h = picked_none (any_of p xs) (0 + place_of p xs) (sym (first_is 0 xs) ∙ sym found ∙ h)

  none_first : (k : ℕ) (xs : List A) → any_of p xs ≡ false → first_from p k xs ≡ None
  unfolding pick
  none_first k xs h = first_is k xs ∙ rw h

-- ---- a walk over TLVs

-- a whole TLV, and those that follow it
tlv_more : (l : List ℕ) (at e : ℕ) → e ≡ at + tlv_end (drop at l) → e ≤ length l → tlvs (drop at l) ≡ tlv (get_or l at 0) (take (e - (at + 2)) (drop (at + 2) l)) ∷ tlvs (drop e l)
tlv_more l at e end fits =
    let d : length (drop at l) ≡ length l - at = length-drop at l in
    let f : get_or (drop at l) 0 0 ≡ get_or l at 0 = get_or-drop at l 0 0 ∙ rw (add-zero at) in
    let n : e - (at + 2) ≡ get_or (drop at l) 1 0 = omega arith in
    tlvs_more (drop at l) (omega arith) ∙ rw (n, f, drop-drop 2 at l, drop-drop (tlv_end (drop at l)) at l, end)

module _ (ask : Piece → Bool) (l : List ℕ) (at i : ℕ) (x : Option ℕ) (inv : x ≡ first_from ask i (tlvs (drop at l))) where
  pub walk_done : length l ≤ at → None ≡ x
  unfolding first_from
  walk_done h =
      let d : length (drop at l) ≡ length l - at = length-drop at l in
      sym (inv ∙ ap (first_from ask i) (tlvs_end (drop at l) (omega arith)))

  module _ (more : at < length l) (e : ℕ) (end : e ≡ at + tlv_end (drop at l)) where
    -- a lone last byte, which is padding where the payload is good, has no place
    pub walk_cut : length l < e → false ≡ ask stump → None ≡ x
    walk_cut short none =
        let d : length (drop at l) ≡ length l - at = length-drop at l in
        sym (inv ∙ none_first ask i _ (tlvs_rest ask (sym none) (drop at l) (omega arith)))

    module _ (fits : e ≤ length l) (h : Bool) (here : h ≡ ask (tlv (get_or l at 0) (take (e - (at + 2)) (drop (at + 2) l)))) where
      walk_here : x ≡ pick h (Some i) (first_from ask (suc i) (tlvs (drop e l)))
      unfolding first_from
      walk_here = inv ∙ ap (first_from ask i) (tlv_more l at e end fits) ∙ rw here

      pub walk_hit : h ≡ true → Some i ≡ x
      unfolding pick
      walk_hit t = sym (rw t at walk_here)

      pub walk_next : h ≡ false → x ≡ first_from ask (i + 1) (tlvs (drop e l))
      unfolding pick
      walk_next t = rw (add-one i) (rw t at walk_here)

  -- an empty TLV of a type without a rule is passed over
  pub walk_empty : (r : Bool) → EmptyAt l at r → r ≡ true → ((k : ℕ) → between 1 8 k ≡ false → ask (tlv k []) ≡ false) → x ≡ first_from ask (i + 1) (tlvs (drop (at + 2) l))
  walk_empty r e is none =
      let room = e.room is in
      let z : at + 2 - (at + 2) ≡ 0 = omega arith in
      walk_next (omega arith) (at + 2) (e.end is) room false (sym (rw z (none (get_or l at 0) (e.unruled is)))) refl

-- a type without a rule is none of those that have one
module _ (k : ℕ) (none : between 1 8 k ≡ false) where
  outside : (n : ℕ) → 1 ≤ n → n ≤ 8 → eqb k n ≡ false
  outside n a b = ne_eqb k n (λ s. let t = between_in 1 8 k (omega arith) (omega arith) in false_true (sym none ∙ t))

  -- and brings no label and no MAC
  pub unruled_label : (x : Label) → brings_label every_type x (tlv k []) ≡ false
  unfolding brings_label vlan_in fine_in both pick
  unruled_label (Vlan x) = rw (outside 6 (omega arith) (omega arith), outside 1 (omega arith) (omega arith), outside 2 (omega arith) (omega arith))
  unruled_label (Fine x) = rw (outside 6 (omega arith) (omega arith), outside 3 (omega arith) (omega arith), outside 4 (omega arith) (omega arith), outside 5 (omega arith) (omega arith))

  pub unruled_mac : (m : ℕ) → brings_mac every_type m (tlv k []) ≡ false
  unfolding brings_mac mac_in both pick
  unruled_mac m = rw (outside 7 (omega arith) (omega arith), outside 8 (omega arith) (omega arith))

-- what is read of a TLV
module _ (l : List ℕ) (at : ℕ) where
  pub empty_room : (r : Bool) → EmptyAt l at r → r ≡ true → at + 2 ≤ length l
  empty_room r e is = e.room is

  pub not_empty : EmptyAt l at false
  not_empty = record { room = λ t. false_true t; end = λ t. false_true t; unruled = λ t. false_true t }

  pub empty_other : 2 ≤ length l - at → get_or l (at + 1) 0 ≡ 0 → EmptyAt l at (not (leb 1 (get_or l at 0) && leb (get_or l at 0) 8))
  unfolding between both
  empty_other more zero = record {
    room = λ t. omega arith;
    end = λ t. let n : get_or (drop at l) 1 0 ≡ 0 = get_or-drop at l 1 0 ∙ zero in omega arith;
    unruled = λ t. sym (and_both (leb 1 (get_or l at 0)) (leb (get_or l at 0) 8)) ∙ not-true _ t;
  }

-- ---- numbers by their last byte

module _ (w : Numbering) (by_Last : LastByte w) where
  pub sound_of : Sound w
  sound_of = by_Last.sound

  pub width_some : 1 ≤ w.size
  width_some = let n = by_Last.sound.width.least in omega arith

  pub last_in : (n at : ℕ) → at + w.size ≤ n → at + (w.size - 1) < n
  last_in n at room = let k = width_some in omega arith

module _ (w : Numbering) (v : List ℕ) (at x b : ℕ) (by_Last : LastByte w) (room : at + w.size ≤ length v) where
  pub last_differs : b ≡ get_or v (at + (w.size - 1)) 0 → b < 2 ^ 8 → (b ≡ x % 256 → ⊥) → false ≡ eqb (number_of w (drop at v)) x
  last_differs byte small other =
      sym (ne_eqb _ _ (λ same. other (byte ∙ sym (by_Last.last v at room (omega arith)) ∙ ap (λ (n : ℕ). n % 256) same)))

module _ (l : List ℕ) (at : ℕ) where
  pub fine_last : at + 3 ≤ length l → get_or l (at + 2) 0 < 256 → number_of fines (drop at l) % 256 ≡ get_or l (at + 2) 0
  unfolding number_of
  fine_last room small =
      let n : num (take 3 (drop at l)) ≡ num (take 2 (drop at l)) * 256 + num (take 1 (drop (at + 2) l)) = num-add l at 2 1 (omega arith) in
      let o : num (take 1 (drop (at + 2) l)) ≡ get_or l (at + 2) 0 = num-one l (at + 2) (omega arith) in
      omega arith

  pub mac_last : at + 6 ≤ length l → get_or l (at + 5) 0 < 256 → number_of macs (drop at l) % 256 ≡ get_or l (at + 5) 0
  unfolding number_of
  mac_last room small =
      let n : num (take 6 (drop at l)) ≡ num (take 5 (drop at l)) * 256 + num (take 1 (drop (at + 5) l)) = num-add l at 5 1 (omega arith) in
      let o : num (take 1 (drop (at + 5) l)) ≡ get_or l (at + 5) 0 = num-one l (at + 5) (omega arith) in
      omega arith

pub fines_by_last : LastByte fines
fines_by_last = record {
  sound = record { width = record { least = omega arith; most = omega arith; six = λ a b. absurd (b refl) }; modulus_some = omega arith };
  last = λ l at room small. fine_last l at room small;
}

pub macs_by_last : LastByte macs
macs_by_last = record {
  sound = record { width = record { least = omega arith; most = omega arith; six = λ a b. refl }; modulus_some = omega arith };
  last = λ l at room small. mac_last l at room small;
}

-- ---- parts of k bytes

-- the one part of a list of k bytes
pub one_part : (p : List ℕ → Bool) (k : ℕ) → 0 < k → (b : List ℕ) → length b ≡ k → any_of p (parts k b) ≡ p b
unfolding any_of
one_part p k some b long =
    let d : length (drop k b) ≡ length b - k = length-drop k b in
    ap (any_of p) (parts_more k some b (omega arith))
    ∙ rw (parts_end k some (drop k b) (omega arith), take_all k b (omega arith)) (either_none (p b))

-- ---- VLAN blocks

-- reserved bits fall away
pub block_told : (v : List ℕ) (at x s e : ℕ) → s ≡ num (take 2 (drop at v)) → e ≡ num (take 2 (drop (at + 2) v)) → first_vlan ≤ x → x ≤ last_vlan → leb (s % 4096) x && leb x (e % 4096) ≡ in_block vlans x (drop at v)
unfolding number_of
block_told v at x s e start end a b = block_tells vlans v at (s % 4096) (e % 4096) (ap (λ (n : ℕ). n % 4096) start) (ap (λ (n : ℕ). n % 4096) end) x a b

module _ (x : ℕ) (v : List ℕ) where
  -- no block has a number that is no VLAN
  pub block_below : x < first_vlan → None ≡ first_from (in_block vlans x) 0 (parts block_bytes v)
  unfolding in_blocks
  block_below h = sym (none_first (in_block vlans x) 0 _ (sym (blocks_below vlans x v h)))

  pub block_above : last_vlan < x → None ≡ first_from (in_block vlans x) 0 (parts block_bytes v)
  unfolding in_blocks
  block_above h = sym (none_first (in_block vlans x) 0 _ (sym (blocks_above vlans x v h)))
