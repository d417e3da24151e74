-- Laws of TLVs: a label by its kind, and a walk in which what is left decides.
-- Assumes nothing.
use Prim.Native.Nat.{ℕ, ◌+◌, ◌-◌, ◌<◌, ◌≤◌}
use mathlib.Core.Bool.{Bool, true, false}
use mathlib.Core.List.{List}
use mathlib.Core.Path.{◌≡◌, sym, ap, ◌∙◌}
use native.Mathlib.Nat.{add-zero}
use native.Mathlib.Omega.{arith}
use lib.ListN.{length, take, drop, get_or, length-drop, get_or-eq_default}
use lib.Seq.{drop-drop, get_or-drop}
use borrow.Author.Tests.{eq-eqb, ne_eqb}
use Rattle.numbers.specs.Tests.{pick, either, any_of}
use Rattle.numbers.proofs.Truth.{either_none}
use Rattle.table.specs.Record.{label_from}
use Rattle.table.specs.declared.Label.TheVariants.{Vlan, Fine}
use Rattle.flush.specs.Payload.{Piece, tlv, stump, tlv_end, is_padding, tlvs}
use Rattle.flush.proofs.Validity.{tlvs_end, tlvs-padded, tlvs-cut, tlvs_rest, tlvs_more}

module _ (kind x : ℕ) where
  pub label_vlan : kind ≡ 0 → label_from kind x ≡ Vlan x
  unfolding label_from pick
  label_vlan h = rw (eq-eqb kind 0 h)

  pub label_fine : (kind ≡ 0 → ⊥) → label_from kind x ≡ Fine x
  unfolding label_from pick
  label_fine h = rw (ne_eqb kind 0 h)

-- ---- a walk, at a place: what is left decides

module _ (l : List ℕ) (at : ℕ) where
  pub end_lone : length l < at + 2 → at + 2 ≡ at + tlv_end (drop at l)
  end_lone h =
      let d : length (drop at l) ≡ length l - at = length-drop at l in
      let z : get_or (drop at l) 1 0 ≡ 0 = get_or-eq_default (drop at l) 0 {n = 1} (omega arith) in
      omega arith

  pub end_told : (n : ℕ) → n ≡ get_or l (at + 1) 0 → at + 2 + n ≡ at + tlv_end (drop at l)
  end_told n e = let g : get_or (drop at l) 1 0 ≡ get_or l (at + 1) 0 = get_or-drop at l 1 0 in omega arith

module _ (ask : Piece → Bool) (l : List ℕ) (at : ℕ) (x : Bool) (inv : x ≡ any_of ask (tlvs (drop at l))) where
  pub tlvs_done_lem : length l ≤ at → false ≡ x
  unfolding any_of
  tlvs_done_lem h =
      let d : length (drop at l) ≡ length l - at = length-drop at l in
      sym (inv ∙ ap (any_of ask) (tlvs_end (drop at l) (omega arith)))

  module _ (more : at < length l) (e : ℕ) (end : e ≡ at + tlv_end (drop at l)) where
    -- a TLV past the end, or a lone last byte, padding or not: it brings nothing
    pub tlv_cut : length l < e → false ≡ ask stump → false ≡ x
    tlv_cut short none =
        let d : length (drop at l) ≡ length l - at = length-drop at l in
        sym (inv ∙ tlvs_rest ask (sym none) (drop at l) (omega arith))

    -- what the test for padding decides
    module _ (p : Bool) (test : p ≡ is_padding (drop at l)) where
      pub tlv_padding : p ≡ true → false ≡ x
      unfolding any_of
      tlv_padding h = sym (inv ∙ ap (any_of ask) (tlvs-padded (drop at l) (sym test ∙ h)))

      pub tlv_stump : p ≡ false → length l < e → (h : Bool) → h ≡ ask stump → h ≡ x
      unfolding any_of
      tlv_stump not short h said =
          let d : length (drop at l) ≡ length l - at = length-drop at l in
          sym (inv ∙ ap (any_of ask) (tlvs-cut (drop at l) (omega arith) (sym test ∙ not) (omega arith)) ∙ rw (← said, either_none h))

    module _ (fits : e ≤ length l) (h : Bool) (here : h ≡ ask (tlv (get_or l at 0) (take (e - (at + 2)) (drop (at + 2) l)))) where
      pub tlv_here : x ≡ either h (any_of ask (tlvs (drop e l)))
      unfolding any_of
      tlv_here =
          let d : length (drop at l) ≡ length l - at = length-drop at l in
          let f : get_or (drop at l) 0 0 ≡ get_or l at 0 = get_or-drop at l 0 0 ∙ rw (add-zero at) in
          let n : e - (at + 2) ≡ get_or (drop at l) 1 0 = omega arith in
          inv
          ∙ ap (any_of ask) (tlvs_more (drop at l) (omega arith))
          ∙ rw (here, n, f, drop-drop 2 at l, drop-drop (tlv_end (drop at l)) at l, end)

      pub tlv_hit : h ≡ true → true ≡ x
      unfolding either
      tlv_hit t = sym (rw t at tlv_here)

      pub tlv_next : h ≡ false → x ≡ any_of ask (tlvs (drop e l))
      unfolding either
      tlv_next t = rw t at tlv_here
