-- What is found of a nickname, a label and a MAC, by the place that a walk answers.
-- Assumes nothing.
use Prim.Native.Nat.{ℕ, zero, suc, ◌-◌, ◌*◌, ◌<◌, ◌≤◌}
use mathlib.Core.Bool.{Bool, true, false}
use mathlib.Core.List.{List, [], ◌∷◌, map}
use mathlib.Core.Path.{◌≡◌, refl, sym, ◌∙◌}
use native.Mathlib.Decide.{ℕ_discrete}
use native.Mathlib.Omega.{arith}
use lib.Dec.{eqb, leb}
use lib.ListN.{length, take, drop, length-drop}
use borrow.Author.Tests.{leb-true, eq-eqb, ne_eqb}
use Rattle.numbers.specs.Tests.{pick, both, either, any_of}
use Rattle.numbers.specs.Bytes.{parts_from, parts}
use Rattle.numbers.specs.Numberings.{vlans, in_block, in_list}
use Rattle.numbers.proofs.Truth.{pick_true, false_true}
use Rattle.table.specs.Record.{label_from}
use Rattle.flush.specs.Payload.{every_type, Piece, tlv, block, stump, tlvs, block_bytes, pieces_of}
use Rattle.flush.specs.Meaning.{brings_label, brings_mac, some_mac_in, gathers_mac, nickname_meant, label_meant, mac_meant}
use Rattle.flush_tlvs.proofs.Laws.{label_vlan}
use Rattle.flush_payload.specs.Judging.{mac_kind, of_kind}
use Rattle.flush_payload.proofs.Laws.{blocks_fine, blocks_gather}
use Rattle.why.specs.Why.{place_of, nickname_is, listed, nickname_match, label_match, mac_match}
use Rattle.why.specs.declared.NicknameMatch.TheVariants.{Sender, Listed}
use Rattle.why.specs.declared.LabelMatch.TheVariants as label
use Rattle.why.specs.declared.MacMatch.TheVariants as mac
use Rattle.why_places.specs.Found.{first_from, nickname_found, label_found, mac_found}
use Rattle.why_places.proofs.Laws.{found_at, found_none}
use Rattle.std.specs.Prelude.{Option, Some, None}

-- ---- the nickname

-- a place lies within the list
module _ {A : Type 0} (p : A → Bool) where
  within-head : (b : Bool) (n : ℕ) (xs : List A) → (any_of p xs ≡ true → n < length xs) → either b (any_of p xs) ≡ true → pick b 0 (suc n) < suc (length xs)
  unfolding pick either
  within-head true n xs rest h = omega arith
  within-head false n xs rest h = let r = rest h in omega arith

  place_within : (xs : List A) → any_of p xs ≡ true → place_of p xs < length xs
  unfolding any_of place_of
  place_within [] h = false_true h
  place_within (x ∷ xs) h = within-head (p x) (place_of p xs) xs (place_within xs) h

-- parts of two bytes are half as many as the bytes
pairs_step : (b : Bool) (l : List ℕ) (ps : List (List ℕ)) → leb 2 (length l) ≡ b → 2 * length ps ≤ length (drop 2 l) → 2 * length (pick b (take 2 l ∷ ps) []) ≤ length l
unfolding pick
pairs_step true l ps e h =
    let d : length (drop 2 l) ≡ length l - 2 = length-drop 2 l in
    let g = leb-true 2 (length l) e in
    omega arith
pairs_step false l ps e h = omega arith

pairs : (n : ℕ) (l : List ℕ) → 2 * length (parts_from 2 n l) ≤ length l
unfolding parts_from
pairs zero l = omega arith
pairs (suc n) l = pairs_step (leb 2 (length l)) l (parts_from 2 n (drop 2 l)) refl (pairs n (drop 2 l))

module _ (ingress : ℕ) (nicks : List ℕ) (x : ℕ) where
  module _ (none : length nicks ≡ 0) where
    pub sender_meant : x ≡ ingress → Some Sender ≡ nickname_found ingress nicks x
    unfolding nickname_found nickname_meant nickname_match pick
    sender_meant e = rw (eq-eqb (length nicks) 0 none, eq-eqb x ingress e)

    pub sender_not : (x ≡ ingress → ⊥) → None ≡ nickname_found ingress nicks x
    unfolding nickname_found nickname_meant nickname_match pick
    sender_not e = rw (eq-eqb (length nicks) 0 none, ne_eqb x ingress e)

  module _ (some : length nicks ≡ 0 → ⊥) (r : Option ℕ) (found : r ≡ first_from (nickname_is x) 0 (listed nicks)) where
    pub listed_not : r ≡ None → None ≡ nickname_found ingress nicks x
    unfolding nickname_found nickname_meant nickname_match in_list pick
    listed_not h = rw (ne_eqb (length nicks) 0 some, found_none (nickname_is x) (listed nicks) r found h)

    module _ (i : ℕ) (h : r ≡ Some i) where
      pub listed_meant : Some (Listed i) ≡ nickname_found ingress nicks x
      unfolding nickname_found nickname_meant nickname_match in_list pick
      listed_meant =
          let (hit, place) = found_at (nickname_is x) (listed nicks) r found i h in
          rw (ne_eqb (length nicks) 0 some, hit, place)

      -- a payload lists at most 255 nicknames
      pub listed_small : length nicks < 512 → i < 256
      unfolding parts
      listed_small few =
          let (hit, place) = found_at (nickname_is x) (listed nicks) r found i h in
          let inside = place_within (nickname_is x) (listed nicks) hit in
          let half = pairs (length nicks) nicks in
          omega arith

-- ---- the label

-- blocks as pieces: the same test, the same place
module _ (p : Piece → Bool) where
  any_blocks : (bs : List (List ℕ)) → any_of p (map block bs) ≡ any_of (λ b. p (block b)) bs
  unfolding any_of
  any_blocks [] = refl
  any_blocks (b ∷ bs) = rw (any_blocks bs)

  place_blocks : (bs : List (List ℕ)) → place_of p (map block bs) ≡ place_of (λ b. p (block b)) bs
  unfolding place_of
  place_blocks [] = refl
  place_blocks (b ∷ bs) = rw (place_blocks bs)

module _ (n : ℕ) (rest : List ℕ) (kind x : ℕ) where
  module _ (none : n ≡ 0) (r : Option ℕ) (found : r ≡ first_from (brings_label every_type (label_from kind x)) 0 (tlvs rest)) where
    pub tlv_not : r ≡ None → None ≡ label_found n (pieces_of n rest) (label_from kind x)
    unfolding label_found label_meant pieces_of pick
    tlv_not h = rw (eq-eqb n 0 none, found_none _ (tlvs rest) r found h)

    pub tlv_meant : (i : ℕ) → r ≡ Some i → Some (label.Tlv i) ≡ label_found n (pieces_of n rest) (label_from kind x)
    unfolding label_found label_meant label_match pieces_of pick
    tlv_meant i h =
        let (hit, place) = found_at (brings_label every_type (label_from kind x)) (tlvs rest) r found i h in
        rw (eq-eqb n 0 none, hit, place)

  module _ (some : n ≡ 0 → ⊥) where
    pub block_fine : (kind ≡ 0 → ⊥) → None ≡ label_found n (pieces_of n rest) (label_from kind x)
    unfolding label_found pick
    block_fine h = rw (← blocks_fine n rest some kind x h)

    module _ (vlan : kind ≡ 0) (r : Option ℕ) (found : r ≡ first_from (in_block vlans x) 0 (parts block_bytes (take (block_bytes * n) rest))) where
      abbrev blocks : List (List ℕ)
      blocks = parts block_bytes (take (block_bytes * n) rest)

      pub block_not : r ≡ None → None ≡ label_found n (pieces_of n rest) (label_from kind x)
      unfolding label_found label_meant brings_label pieces_of pick
      block_not h = rw (ne_eqb n 0 some, label_vlan kind x vlan, any_blocks, found_none (in_block vlans x) blocks r found h)

      pub block_meant : (i : ℕ) → r ≡ Some i → Some (label.Block i) ≡ label_found n (pieces_of n rest) (label_from kind x)
      unfolding label_found label_meant label_match brings_label pieces_of pick
      block_meant i h =
          let (hit, place) = found_at (in_block vlans x) blocks r found i h in
          rw (ne_eqb n 0 some, label_vlan kind x vlan, any_blocks, place_blocks, hit, place)

-- ---- the MAC

neither : (a b : Bool) → either a b ≡ false → (a ≡ false) × (b ≡ false)
unfolding either
neither true b h = false_true (sym h)
neither false b h = (refl, h)

-- a piece of no kind of MACs gathers none
not_gathers : (p : Piece) → of_kind every_type mac_kind p ≡ false → gathers_mac every_type p ≡ false
unfolding of_kind gathers_mac some_mac_in both pick
not_gathers (tlv k v) e = let m = neither (eqb k 7) (eqb k 8) e in rw (m.0, m.1)
not_gathers (block b) e = refl
not_gathers stump e = refl

none_gathers : (ps : List Piece) → any_of (of_kind every_type mac_kind) ps ≡ false → any_of (gathers_mac every_type) ps ≡ false
unfolding any_of either
none_gathers [] e = refl
none_gathers (p ∷ ps) e =
    let m = neither (of_kind every_type mac_kind p) (any_of (of_kind every_type mac_kind) ps) e in
    rw (not_gathers p m.0) (none_gathers ps m.1)

pub mac_unnoted : (n : ℕ) (rest : List ℕ) (m : ℕ) (b : Bool) → b ≡ any_of (of_kind every_type mac_kind) (pieces_of n rest) → b ≡ false → Some mac.Every ≡ mac_found (pieces_of n rest) m
unfolding mac_found mac_meant mac_match pick either
mac_unnoted n rest m b noted h = rw (none_gathers (pieces_of n rest) (sym noted ∙ h))

module _ (n : ℕ) (rest : List ℕ) (m : ℕ) (g : Bool) (gathers : g ≡ any_of (gathers_mac every_type) (pieces_of n rest)) where
  pub mac_every : g ≡ false → Some mac.Every ≡ mac_found (pieces_of n rest) m
  unfolding mac_found mac_meant mac_match pick either
  mac_every h = rw (← gathers, h)

  -- only TLVs gather a MAC
  gathered-tlvs : g ≡ true → pieces_of n rest ≡ tlvs rest
  unfolding pieces_of
  gathered-tlvs some = go (ℕ_discrete n 0)
    where
      go : Dec (n ≡ 0) → pieces_of n rest ≡ tlvs rest
      go (yes e) = pick_true (eqb n 0) _ _ (eq-eqb n 0 e)
      go (no d) = false_true (blocks_gather n rest d ∙ sym gathers ∙ some)

  module _ (some : g ≡ true) (r : Option ℕ) (found : r ≡ first_from (brings_mac every_type m) 0 (tlvs rest)) where
    pub mac_not : r ≡ None → None ≡ mac_found (pieces_of n rest) m
    unfolding mac_found mac_meant pick either
    mac_not h = rw (← gathers, some, gathered-tlvs some, found_none (brings_mac every_type m) (tlvs rest) r found h)

    pub mac_meant_lem : (i : ℕ) → r ≡ Some i → Some (mac.Tlv i) ≡ mac_found (pieces_of n rest) m
    unfolding mac_found mac_meant mac_match pick either
    mac_meant_lem i h =
        let (hit, place) = found_at (brings_mac every_type m) (tlvs rest) r found i h in
        rw (← gathers, some, gathered-tlvs some, hit, place)
