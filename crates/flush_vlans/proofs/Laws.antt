-- Laws of preparing VLANs: what a TLV adds, a walk in which what was added and what is left make up the whole, and the whole.
-- Assumes nothing.
use Prim.Native.Nat.{ℕ, zero, suc, ◌+◌, ◌-◌, ◌*◌, ◌<◌, ◌≤◌}
use mathlib.Core.Bool.{Bool, true, false}
use mathlib.Core.List.{List, [], ◌∷◌}
use mathlib.Core.Path.{◌≡◌, refl, sym, ◌∙◌}
use native.Mathlib.Nat.{add-zero}
use native.Mathlib.Omega.{arith}
use lib.Dec.{eqb}
use lib.ListN.{length, take, drop, get_or, length-drop}
use lib.Seq.{drop-drop, get_or-drop}
use borrow.Author.Tests.{eq-eqb, ne_eqb}
use Rattle.numbers.specs.Tests.{pick, both, either, any_of}
use Rattle.numbers.specs.Numberings.{vlans, in_blocks, bit_at}
use Rattle.numbers.proofs.Truth.{either_neither, either_none, either_assoc, either_swap}
use Rattle.table.specs.declared.Label.TheVariants.{Vlan}
use Rattle.flush.specs.Payload.{every_type, Piece, tlv, block, stump, tlv_end, tlvs_from, tlvs, pieces_of}
use Rattle.flush.specs.Meaning.{vlan_in, brings_label, label_meant}
use Rattle.flush.proofs.Validity.{tlvs_end, tlvs_rest, tlvs_more}
use Rattle.flush_bits.specs.Ranged.{Ranged}
use Rattle.flush_tlvs.proofs.Laws.{label_vlan}
use Rattle.flush_payload.specs.Judging.{every_kind, vlan_kind, of_kind}
use Rattle.flush_payload.specs.declared.Kinds.{Kinds}
use Rattle.flush_payload.proofs.Laws.{none_brought, blocks_vlan}
use Rattle.flush_sets.specs.Gains.{Gains, None, in_vlan_block, in_vlan_blocks, in_vlan_map}
use Rattle.flush_sets.proofs.Adding.{gains_none, gains_same}
use Rattle.flush_vlans.specs.Vlans.{vlan_bytes, vlans_in, vlans_of, VlansNoted, VlansMeant}

-- ---- a TLV

module _ (k : ℕ) (v s : List ℕ) where
  pub value_blocks : k ≡ 1 → (t : List ℕ) → Gains s t (in_vlan_blocks v) → Gains s t (vlans_in (tlv k v))
  unfolding vlans_in pick
  value_blocks h t g = gains_same s t (in_vlan_blocks v) _ (λ x. rw (eq-eqb k 1 h)) g

  module _ (d : k ≡ 1 → ⊥) where
    pub value_map : k ≡ 2 → (t : List ℕ) → Gains s t (in_vlan_map v) → Gains s t (vlans_in (tlv k v))
    unfolding vlans_in pick
    value_map h t g = gains_same s t (in_vlan_map v) _ (λ x. rw (ne_eqb k 1 d, eq-eqb k 2 h)) g

    pub value_other : (k ≡ 2 → ⊥) → Gains s s (vlans_in (tlv k v))
    unfolding vlans_in pick
    value_other h = gains_none s _ (λ x. rw (ne_eqb k 1 d, ne_eqb k 2 h))

-- ---- the walk

pub record Walking (l s₀ s : List ℕ) (at : ℕ) : Type 0 where
  pub place : at ≤ length l
  pub long : length s ≡ length s₀
  pub each : (x : ℕ) → either (bit_at x s₀) (vlans_of (tlvs l) x) ≡ either (bit_at x s) (vlans_of (tlvs (drop at l)) x)

pub walk_start : (l s₀ : List ℕ) → Walking l s₀ s₀ 0
walk_start l s₀ = record { place = omega arith; long = refl; each = λ x. refl }

module _ (l s₀ s : List ℕ) (at : ℕ) (w : Walking l s₀ s at) where
  pub walk_done : length l ≤ at → Gains s₀ s (vlans_of (tlvs l))
  unfolding vlans_of any_of
  walk_done h =
      let d : length (drop at l) ≡ length l - at = length-drop at l in
      record { long = w.long; each = λ x. sym (w.each x ∙ rw (tlvs_end (drop at l) (omega arith)) (either_none (bit_at x s))) }

  module _ (more : at < length l) (e : ℕ) (end : e ≡ at + tlv_end (drop at l)) where
    pub walk_cut : length l < e → Gains s₀ s (vlans_of (tlvs l))
    unfolding vlans_of any_of vlans_in either
    walk_cut h =
        let d : length (drop at l) ≡ length l - at = length-drop at l in
        record { long = w.long; each = λ x. sym (w.each x ∙ rw (tlvs_rest (λ p. vlans_in p x) refl (drop at l) (omega arith)) (either_none (bit_at x s))) }

    pub walk_next : e ≤ length l → (t : List ℕ) → Gains s t (vlans_in (tlv (get_or l at 0) (take (e - (at + 2)) (drop (at + 2) l)))) → Walking l s₀ t e
    unfolding vlans_of any_of
    walk_next fits t g =
        let d : length (drop at l) ≡ length l - at = length-drop at l in
        let f : get_or (drop at l) 0 0 ≡ get_or l at 0 = get_or-drop at l 0 0 ∙ rw (add-zero at) in
        let n : e - (at + 2) ≡ get_or (drop at l) 1 0 = omega arith in
        record {
          place = fits;
          long = g.long ∙ w.long;
          each = λ x.
              w.each x
              ∙ rw (tlvs_more (drop at l) (omega arith))
              (rw (f, drop-drop 2 at l, drop-drop (tlv_end (drop at l)) at l, ← end, ← n, g.each x)
              (sym (either_assoc (bit_at x s) _ _)));
        }

-- ---- the whole

pick-either : (a b : Bool) → pick a true b ≡ either a b
unfolding pick either
pick-either true b = refl
pick-either false b = refl

-- a VLAN is brought by a TLV of type 6, or named
brings_is : (x : ℕ) (p : Piece) → brings_label every_type (Vlan x) p ≡ either (of_kind every_type every_kind p) (vlans_in p x)
unfolding brings_label of_kind vlans_in vlan_in pick both either in_vlan_block in_vlan_blocks in_vlan_map
brings_is x (tlv k v) = pick-either (eqb k 6) _
brings_is x (block b) = refl
brings_is x stump = refl

meant_is : (x : ℕ) (ps : List Piece) → either (any_of (of_kind every_type every_kind) ps) (vlans_of ps x) ≡ label_meant every_type ps (Vlan x)
unfolding label_meant vlans_of any_of either
meant_is x [] = refl
meant_is x (p ∷ ps) = either_swap (of_kind every_type every_kind p) (any_of (of_kind every_type every_kind) ps) (vlans_in p x) (vlans_of ps x) ∙ rw (brings_is x p, ← meant_is x ps)

pub every_meant : (ps : List Piece) (f : Kinds) → VlansNoted ps f → f.every ≡ true → (x : ℕ) → label_meant every_type ps (Vlan x) ≡ true
unfolding either
every_meant ps f noted e x = sym (meant_is x ps) ∙ rw (← noted.every, e)

-- TLVs of other types name no VLAN
abbrev none_named : ℕ → List Piece → Type 0
none_named x ps = any_of (of_kind every_type vlan_kind) ps ≡ false → any_of (λ p. vlans_in p x) ps ≡ false

named_case : (x : ℕ) (a b : Bool) (k : ℕ) (v : List ℕ) (ps : List Piece) → none_named x ps → none_named x (pick a [] (pick b (tlv k v ∷ ps) (stump ∷ [])))
unfolding pick any_of of_kind both either vlans_in
named_case x true b k v ps later e = refl
named_case x false false k v ps later e = refl
named_case x false true k v ps later e =
    let here = either_neither (either (eqb k 1) (eqb k 2)) _ e in
    let types = either_neither (eqb k 1) (eqb k 2) here.0 in
    rw (types.0, types.1) (later here.1)

named_none : (x n : ℕ) (l : List ℕ) → none_named x (tlvs_from n l)
unfolding tlvs_from any_of
named_none x zero l e = refl
named_none x (suc n) l e = named_case x _ _ _ _ (tlvs_from n (drop (tlv_end l) l)) (named_none x n (drop (tlv_end l) l)) e

module _ (n : ℕ) (r : List ℕ) (f : Kinds) (noted : VlansNoted (pieces_of n r) f) (s : List ℕ) where
  named_tlvs : n ≡ 0 → vlans_of (tlvs r) ≡ vlans_of (pieces_of n r)
  unfolding pieces_of pick
  named_tlvs z = rw (eq-eqb n 0 z)

  pub added_tlvs : n ≡ 0 → (t : List ℕ) → Gains s t (vlans_of (tlvs r)) → Gains s t (vlans_of (pieces_of n r))
  added_tlvs z t g = rw (← named_tlvs z) g

  pub added_none : n ≡ 0 → f.vlans ≡ false → Gains s s (vlans_of (pieces_of n r))
  unfolding pieces_of pick tlvs vlans_of
  added_none z e =
      let q = sym noted.vlans ∙ e in
      gains_none s _ (λ x. rw (eq-eqb n 0 z) (named_none x (length r) r (rw (eq-eqb n 0 z) at q)))

  pub added_blocks : (n ≡ 0 → ⊥) → (t : List ℕ) → Gains s t (in_vlan_blocks (take (4 * n) r)) → Gains s t (vlans_of (pieces_of n r))
  unfolding in_vlan_blocks of_kind either
  added_blocks some t g =
      gains_same s t _ _ (λ x.
      rw (label_vlan 0 x refl) at (blocks_vlan n r some 0 x refl (in_blocks vlans x (take (4 * n) r)) refl)
      ∙ sym (meant_is x (pieces_of n r))
      ∙ rw (← none_brought (of_kind every_type every_kind) n r some (λ b. refl))) g

  module _ (long : length s ≡ vlan_bytes) (none : None s) where
    pub set_every : f.every ≡ true → (t : List ℕ) → Ranged s t (8 * 0) (8 * 512) → VlansMeant (pieces_of n r) t
    unfolding either
    set_every e t g = record {
      long = g.long ∙ long;
      each = λ x few. g.inside x (omega arith) (omega arith) ∙ sym (sym (meant_is x (pieces_of n r)) ∙ rw (← noted.every, e));
    }

    pub set_named : f.every ≡ false → (t : List ℕ) → Gains s t (vlans_of (pieces_of n r)) → VlansMeant (pieces_of n r) t
    unfolding either
    set_named e t g = record {
      long = g.long ∙ long;
      each = λ x few. g.each x ∙ rw (none x) (sym (sym (meant_is x (pieces_of n r)) ∙ rw (← noted.every, e)));
    }
