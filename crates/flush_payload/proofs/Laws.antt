-- Laws of a payload: the pieces behind K-VLBs in both forms of the message, and membership in the three sets.
-- Assumes nothing.
use Prim.Native.Nat.{ℕ, ◌*◌}
use mathlib.Core.Bool.{Bool, true, false}
use mathlib.Core.List.{List, [], ◌∷◌, map}
use mathlib.Core.Path.{◌≡◌, refl, sym, ap, ◌∙◌}
use native.Mathlib.Decide.{ℕ_discrete}
use lib.Dec.{eqb}
use lib.ListN.{take}
use borrow.Author.Tests.{eq-eqb, ne_eqb}
use Rattle.numbers.specs.Tests.{either, any_of}
use Rattle.numbers.specs.Bytes.{parts}
use Rattle.numbers.specs.Numberings.{vlans, in_blocks}
use Rattle.numbers.proofs.Truth.{pick_true, pick_false, false_true}
use Rattle.table.specs.Record.{label_from}
use Rattle.flush.specs.Payload.{every_type, Piece, block, tlvs, block_bytes, pieces_of}
use Rattle.flush.specs.Meaning.{brings_label, brings_mac, gathers_mac, label_meant, mac_meant}
use Rattle.flush_tlvs.proofs.Laws.{label_vlan, label_fine}

-- ---- the pieces

module _ (ask : Piece → Bool) where
  any_blocks : (bs : List (List ℕ)) → any_of ask (map block bs) ≡ any_of (λ b. ask (block b)) bs
  unfolding any_of
  any_blocks [] = refl
  any_blocks (b ∷ bs) = rw (any_blocks bs)

  no_blocks : ((b : List ℕ) → ask (block b) ≡ false) → (bs : List (List ℕ)) → any_of ask (map block bs) ≡ false
  unfolding any_of either
  no_blocks none [] = refl
  no_blocks none (b ∷ bs) = rw (none b) (no_blocks none bs)

  module _ (n : ℕ) (r : List ℕ) where
    pub of_tlvs : n ≡ 0 → (h : Bool) → h ≡ any_of ask (tlvs r) → h ≡ any_of ask (pieces_of n r)
    unfolding pieces_of
    of_tlvs z h e = e ∙ ap (any_of ask) (sym (pick_true (eqb n 0) _ _ (eq-eqb n 0 z)))

    of_blocks : (n ≡ 0 → ⊥) → any_of ask (pieces_of n r) ≡ any_of ask (map block (parts block_bytes (take (block_bytes * n) r)))
    unfolding pieces_of
    of_blocks some = ap (any_of ask) (pick_false (eqb n 0) _ _ (ne_eqb n 0 some))

    pub none_brought : (n ≡ 0 → ⊥) → ((b : List ℕ) → ask (block b) ≡ false) → false ≡ any_of ask (pieces_of n r)
    none_brought some none = sym (of_blocks some ∙ no_blocks none (parts block_bytes (take (block_bytes * n) r)))

module _ (n : ℕ) (r : List ℕ) (some : n ≡ 0 → ⊥) where
  pub blocks_gather : false ≡ any_of (gathers_mac every_type) (pieces_of n r)
  unfolding gathers_mac
  blocks_gather = none_brought (gathers_mac every_type) n r some (λ b. refl)

  module _ (kind x : ℕ) where
    pub blocks_fine : (kind ≡ 0 → ⊥) → false ≡ label_meant every_type (pieces_of n r) (label_from kind x)
    unfolding label_meant brings_label
    blocks_fine h = rw (label_fine kind x h) (none_brought _ n r some (λ b. refl))

    -- some of the blocks brings the VLAN: the bytes of them have it
    pub blocks_vlan : kind ≡ 0 → (h : Bool) → h ≡ in_blocks vlans x (take (block_bytes * n) r) → h ≡ label_meant every_type (pieces_of n r) (label_from kind x)
    unfolding label_meant brings_label in_blocks
    blocks_vlan z h e = rw (label_vlan kind x z) (e ∙ sym (of_blocks _ n r some ∙ any_blocks _ (parts block_bytes (take (block_bytes * n) r))))

-- ---- MACs

module _ (n : ℕ) (r : List ℕ) (g : Bool) (told : g ≡ any_of (gathers_mac every_type) (pieces_of n r)) (m : ℕ) where
  pub every_mac : g ≡ false → true ≡ mac_meant every_type (pieces_of n r) m
  unfolding mac_meant either
  every_mac h = rw (← told, h)

  -- only TLVs gather a MAC
  gathered-tlvs : g ≡ true → n ≡ 0
  gathered-tlvs h = go (ℕ_discrete n 0)
    where
      go : Dec (n ≡ 0) → n ≡ 0
      go (yes e) = e
      go (no d) = false_true (blocks_gather n r d ∙ sym told ∙ h)

  pub that_mac : g ≡ true → (b : Bool) → b ≡ any_of (brings_mac every_type m) (tlvs r) → b ≡ mac_meant every_type (pieces_of n r) m
  unfolding mac_meant either
  that_mac h b e = rw (← told, h) (of_tlvs (brings_mac every_type m) n r (gathered-tlvs h) b e)
