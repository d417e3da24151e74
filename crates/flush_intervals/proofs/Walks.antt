-- Laws of the walks over parts and TLVs: what is hit and what is left make up the whole.
-- Assumes nothing.
use Prim.Native.Nat.{ℕ, suc, ◌+◌, ◌-◌, ◌/◌, ◌≤◌, ◌<◌}
use mathlib.Core.Bool.{Bool, true, false, ◌&&◌}
use mathlib.Core.List.{List, ◌∷◌, ◌++◌}
use mathlib.Core.Path.{◌≡◌, refl, sym, ap, ◌∙◌}
use native.Mathlib.Nat.{add-zero}
use native.Mathlib.Omega.{arith}
use lib.Dec.{leb, eqb}
use lib.ListN.{length, take, drop, get_or, length-drop, length-append}
use lib.Seq.{drop-drop, get_or-drop, take_at, drop_at}
use borrow.Author.Tests.{eq-eqb, ne_eqb}
use Rattle.numbers.specs.Tests.{pick, both, either, any_of}
use Rattle.numbers.specs.Bytes.{parts}
use Rattle.numbers.specs.Numberings.{in_blocks, in_list, in_map, bit_at}
use Rattle.numbers.specs.declared.Numbering.{Numbering}
use Rattle.numbers.proofs.Truth.{and_both, either_none, either_assoc}
use Rattle.numbers.proofs.Parts.{parts_end, parts_more}
use Rattle.flush.specs.Payload.{tlv, tlv_end, tlvs}
use Rattle.flush.proofs.Validity.{tlvs_end, tlvs_rest, tlvs_more}
use Rattle.flush_parts.specs.Parts.{span_for, low_for, past_for, hit_for, parts_hit}
use Rattle.flush_parts.specs.Named.{named_in, named_of}
use Rattle.flush_parts.specs.declared.Naming.{Naming}
use Rattle.flush_parts.proofs.Parts.{hit_is, single_past}
use Rattle.flush_buckets.specs.Buckets.{key_slots}
use Rattle.flush_intervals.specs.Hits.{Hits}
use Rattle.flush_intervals.proofs.Hits.{hits_none}

-- ---- the parts of a value

-- the bits h, with what the rest of the value still hits, are those of the whole
pub record Hitting (t : Bool) (w : Numbering) (v keys h₀ h rest : List ℕ) : Type 0 where
  pub long : length h ≡ length h₀
  pub means : (i : ℕ) → i < length keys → either (bit_at i h₀) (parts_hit t w v (get_or keys i 0 / key_slots)) ≡ either (bit_at i h) (parts_hit t w rest (get_or keys i 0 / key_slots))

module _ (t : Bool) (w : Numbering) (k : ℕ) (span : (k ≡ span_for t w) × (0 < k)) (v keys h₀ h rest : List ℕ) (a : Hitting t w v keys h₀ h rest) where
  pub hit_done : length rest < k → Hits (parts_hit t w v) keys h₀ h
  unfolding parts_hit any_of
  hit_done few =
      let e = span.0 in
      let some = span.1 in
      record { long = a.long; each = λ i m. sym (a.means i m ∙ rw (parts_end (span_for t w) (omega arith) rest (omega arith)) (either_none (bit_at i h))) }

  pub hit_next : (part left : List ℕ) → rest ≡ part ++ left → length part ≡ k → (s e : ℕ) → s ≡ low_for t w part → e ≡ past_for t w part → (u : List ℕ) → Hits (λ x. both (leb s x) (leb (suc x) e)) keys h u → Hitting t w v keys h₀ u left
  unfolding parts_hit any_of
  hit_next part left is size s e es ee u g =
      let whole : length part ≡ span_for t w = size ∙ span.0 in
      let some = span.1 in
      let n : length (part ++ left) ≡ length part + length left = length-append part left in
      let more : parts (span_for t w) rest ≡ part ∷ parts (span_for t w) left =
      rw is (parts_more (span_for t w) (omega arith) (part ++ left) (omega arith) ∙ rw (take_at part left (span_for t w) whole, drop_at part left (span_for t w) whole)) in
      record {
        long = g.long ∙ a.long;
        means = λ i m.
            a.means i m
            ∙ rw (more, hit_is t w (get_or keys i 0 / key_slots) part, ← es, ← ee, g.each i m)
            (sym (either_assoc (bit_at i h) (both (leb s (get_or keys i 0 / key_slots)) (leb (suc (get_or keys i 0 / key_slots)) e)) _));
      }

-- a number alone ends where it starts
pub alone_past : (t : Bool) (w : Numbering) (b : List ℕ) (x : ℕ) → t ≡ false → x ≡ low_for t w b → x + 1 ≡ past_for t w b
alone_past t w b x off e = rw off (single_past w b x (rw off at e))

-- ---- a TLV

hits_same : (p q : ℕ → Bool) (keys h u : List ℕ) → ((x : ℕ) → p x ≡ q x) → Hits p keys h u → Hits q keys h u
hits_same p q keys h u e g = record { long = g.long; each = λ i m. g.each i m ∙ ap (either (bit_at i h)) (e (get_or keys i 0 / key_slots)) }

module _ (d : Naming) (k : ℕ) (v keys h : List ℕ) where
  module _ (u : List ℕ) where
    pub value_blocks : k ≡ d.blocks → Hits (parts_hit true d.numbering v) keys h u → Hits (named_in d (tlv k v)) keys h u
    unfolding named_in pick parts_hit in_blocks hit_for span_for
    value_blocks e g = hits_same _ _ keys h u (λ x. rw (eq-eqb k d.blocks e)) g

    pub value_singles : (k ≡ d.blocks → ⊥) → k ≡ d.singles → Hits (parts_hit false d.numbering v) keys h u → Hits (named_in d (tlv k v)) keys h u
    unfolding named_in pick parts_hit in_list hit_for span_for
    value_singles b e g = hits_same _ _ keys h u (λ x. rw (ne_eqb k d.blocks b, eq-eqb k d.singles e)) g

    pub value_maps : (k ≡ d.blocks → ⊥) → (k ≡ d.singles → ⊥) → (d.mapped && eqb k d.maps) ≡ true → Hits (λ x. in_map d.numbering x v) keys h u → Hits (named_in d (tlv k v)) keys h u
    unfolding named_in pick
    value_maps b s e g = hits_same _ _ keys h u (λ x. rw (ne_eqb k d.blocks b, ne_eqb k d.singles s, ← and_both d.mapped (eqb k d.maps), e)) g

  pub value_other : (k ≡ d.blocks → ⊥) → (k ≡ d.singles → ⊥) → (d.mapped && eqb k d.maps) ≡ false → Hits (named_in d (tlv k v)) keys h h
  unfolding named_in pick
  value_other b s e = hits_none _ keys h (λ i m. rw (ne_eqb k d.blocks b, ne_eqb k d.singles s, ← and_both d.mapped (eqb k d.maps), e))

-- ---- the TLVs

pub record Walking (d : Naming) (l keys h₀ h : List ℕ) (at : ℕ) : Type 0 where
  pub place : at ≤ length l
  pub long : length h ≡ length h₀
  pub means : (i : ℕ) → i < length keys → either (bit_at i h₀) (named_of d (tlvs l) (get_or keys i 0 / key_slots)) ≡ either (bit_at i h) (named_of d (tlvs (drop at l)) (get_or keys i 0 / key_slots))

module _ (d : Naming) (l keys h₀ : List ℕ) where
  pub walk_start : Walking d l keys h₀ h₀ 0
  walk_start = record { place = omega arith; long = refl; means = λ i k. refl }

  module _ (h : List ℕ) (at : ℕ) (g : Walking d l keys h₀ h at) where
    pub walk_done : length l ≤ at → Hits (named_of d (tlvs l)) keys h₀ h
    unfolding named_of any_of
    walk_done far =
        let z : length (drop at l) ≡ length l - at = length-drop at l in
        record { long = g.long; each = λ i m. sym (g.means i m ∙ rw (tlvs_end (drop at l) (omega arith)) (either_none (bit_at i h))) }

    module _ (more : at < length l) (e : ℕ) (end : e ≡ at + tlv_end (drop at l)) where
      pub walk_cut : length l < e → Hits (named_of d (tlvs l)) keys h₀ h
      unfolding named_of any_of named_in either
      walk_cut far =
          let z : length (drop at l) ≡ length l - at = length-drop at l in
          record { long = g.long; each = λ i m. sym (g.means i m ∙ rw (tlvs_rest (λ p. named_in d p (get_or keys i 0 / key_slots)) refl (drop at l) (omega arith)) (either_none (bit_at i h))) }

      pub walk_next : e ≤ length l → (u : List ℕ) → Hits (named_in d (tlv (get_or l at 0) (take (e - (at + 2)) (drop (at + 2) l)))) keys h u → Walking d l keys h₀ u e
      unfolding named_of any_of
      walk_next fits u a =
          let y : length (drop at l) ≡ length l - at = length-drop at l in
          let f : get_or (drop at l) 0 0 ≡ get_or l at 0 = get_or-drop at l 0 0 ∙ rw (add-zero at) in
          let z : e - (at + 2) ≡ get_or (drop at l) 1 0 = omega arith in
          record {
            place = fits;
            long = a.long ∙ g.long;
            means = λ i m.
                g.means i m
                ∙ rw (tlvs_more (drop at l) (omega arith))
                (rw (f, drop-drop 2 at l, drop-drop (tlv_end (drop at l)) at l, ← end, ← z, a.each i m)
                (sym (either_assoc (bit_at i h) _ _)));
          }
