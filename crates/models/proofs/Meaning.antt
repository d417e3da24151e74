-- What the small model makes of a message that the full one accepts: the same pieces, the same VLANs, every MAC.
-- Assumes nothing.
use Prim.Native.Nat.{ℕ, ◌+◌, ◌*◌}
use mathlib.Core.Bool.{Bool, true, false, not}
use mathlib.Core.List.{List, [], ◌∷◌}
use mathlib.Core.Logic.{◌⊎◌, inl, inr}
use mathlib.Core.Path.{◌≡◌, refl, sym, ap, ◌∙◌}
use native.Mathlib.Omega.{arith}
use lib.Dec.{leb, eqb}
use lib.ListN.{length}
use borrow.Author.Tests.{eqb-true}
use Rattle.numbers.specs.Tests.{pick, both, either, any_of}
use Rattle.numbers.specs.Numberings.{vlans, in_blocks, in_map}
use Rattle.numbers.proofs.Answers.{check_got, check_pass}
use Rattle.numbers.proofs.Truth.{both_true, false_true}
use Rattle.table.specs.declared.Label.TheVariants.{Vlan}
use Rattle.flush.specs.Payload.{every_type, vlan_types, Piece, tlv, block, stump, length_good, corrupt, nick_bytes, block_count, behind, block_bytes, pieces_of, Payload, payload_of}
use Rattle.flush.specs.Meaning.{vlan_in, some_mac_in, brings_label, gathers_mac, brings_mac, label_meant, mac_meant}
use Rattle.flush.specs.Sets.{Some}
use Rattle.flush.proofs.Lists.{any_true, any_member, any_false}
use Rattle.models.specs.Claims.{MacTlv}
use Rattle.std.specs.Prelude.{Ok}

-- ---- corrupt pieces

corrupt_less : (x : Piece) → corrupt vlan_types x ≡ true → corrupt every_type x ≡ true
unfolding corrupt both
corrupt_less (tlv k v) h = (both_true (vlan_types k) (not (length_good k (length v))) h).1
corrupt_less (block b) h = h
corrupt_less stump h = h

none_corrupt : (ps : List Piece) → not (any_of (corrupt every_type) ps) ≡ true → not (any_of (corrupt vlan_types) ps) ≡ true
none_corrupt ps h =
    ap not
    (any_false (corrupt vlan_types) ps
    (λ s.
    let e : any_of (corrupt every_type) ps ≡ true = any_member (corrupt every_type) s.1 (corrupt_less s.0 s.2) in
    let z : ◌≡◌ {A = Bool} false true = sym (ap not e) ∙ h in
    false_true z))

pub accepts : (l : List ℕ) (p : Payload) → payload_of every_type l ≡ Ok p → payload_of vlan_types l ≡ Ok p
unfolding payload_of
accepts l p e =
    let a = check_got (leb 1 (length l)) _ _ p e in
    let b = check_got (leb (1 + nick_bytes l) (length l)) _ _ p a.1 in
    let c = check_got (leb (2 + nick_bytes l) (length l)) _ _ p b.1 in
    let d = check_got (leb (block_bytes * block_count l) (length (behind l))) _ _ p c.1 in
    let f = check_got (not (any_of (corrupt every_type) (pieces_of (block_count l) (behind l)))) _ _ p d.1 in
    check_pass _ _ _ a.0
    ∙ check_pass _ _ _ b.0
    ∙ check_pass _ _ _ c.0
    ∙ check_pass _ _ _ d.0
    ∙ check_pass _ _ _ (none_corrupt (pieces_of (block_count l) (behind l)) f.0)
    ∙ f.1

-- ---- labels

by_tests : (a b c x y : Bool) → both (either b (either c a)) (pick a true (pick b x (pick c y false))) ≡ pick a true (pick b x (pick c y false))
unfolding both either pick
by_tests a true c x y = refl
by_tests a false true x y = refl
by_tests true false false x y = refl
by_tests false false false x y = refl

brings_same : (n : ℕ) (x : Piece) → brings_label vlan_types (Vlan n) x ≡ brings_label every_type (Vlan n) x
unfolding brings_label vlan_in both
brings_same n (tlv k v) = by_tests (eqb k 6) (eqb k 1) (eqb k 2) (in_blocks vlans n v) (in_map vlans n v)
brings_same n (block b) = refl
brings_same n stump = refl

pub any_same : {A : Type 0} (p q : A → Bool) → ((x : A) → p x ≡ q x) → (xs : List A) → any_of p xs ≡ any_of q xs
unfolding any_of
any_same p q e [] = refl
any_same p q e (x ∷ xs) = rw (e x, any_same p q e xs)

pub label_same : (n : ℕ) (ps : List Piece) → label_meant vlan_types ps (Vlan n) ≡ label_meant every_type ps (Vlan n)
unfolding label_meant
label_same n ps = any_same (brings_label vlan_types (Vlan n)) (brings_label every_type (Vlan n)) (brings_same n) ps

-- ---- MACs

-- a TLV that gathers a MAC has type 7 or 8
gathers_type : (k : ℕ) (v : List ℕ) → some_mac_in k v ≡ true → (k ≡ 7) ⊎ (k ≡ 8)
unfolding some_mac_in pick
gathers_type k v h = go (eqb k 7) (eqb k 8) refl refl _ _ h
  where
    go : (a b : Bool) → eqb k 7 ≡ a → eqb k 8 ≡ b → (x y : Bool) → pick a x (pick b y false) ≡ true → (k ≡ 7) ⊎ (k ≡ 8)
    go true b e f x y h = inl (eqb-true k 7 e)
    go false true e f x y h = inr (eqb-true k 8 f)
    go false false e f x y h = false_true h

pub small_types_lem : (k : ℕ) → vlan_types k ≡ true → (k ≡ 1) ⊎ ((k ≡ 2) ⊎ (k ≡ 6))
unfolding either
small_types_lem k h = go (eqb k 1) (eqb k 2) refl refl h
  where
    go : (a b : Bool) → eqb k 1 ≡ a → eqb k 2 ≡ b → either a (either b (eqb k 6)) ≡ true → (k ≡ 1) ⊎ ((k ≡ 2) ⊎ (k ≡ 6))
    go true b e f h = inl (eqb-true k 1 e)
    go false true e f h = inr (inl (eqb-true k 2 f))
    go false false e f h = inr (inr (eqb-true k 6 h))

apart : (k : ℕ) → (k ≡ 7) ⊎ (k ≡ 8) → (k ≡ 1) ⊎ ((k ≡ 2) ⊎ (k ≡ 6)) → ⊥
apart k (inl a) (inl b) = omega arith
apart k (inl a) (inr (inl b)) = omega arith
apart k (inl a) (inr (inr b)) = omega arith
apart k (inr a) (inl b) = omega arith
apart k (inr a) (inr (inl b)) = omega arith
apart k (inr a) (inr (inr b)) = omega arith

gathers_none : (x : Piece) → gathers_mac vlan_types x ≡ true → ⊥
unfolding gathers_mac
gathers_none (tlv k v) h =
    let b = both_true (vlan_types k) (some_mac_in k v) h in
    apart k (gathers_type k v b.1) (small_types_lem k b.0)
gathers_none (block b) h = false_true h
gathers_none stump h = false_true h

pub every_mac : (ps : List Piece) (m : ℕ) → mac_meant vlan_types ps m ≡ true
unfolding mac_meant either
every_mac ps m = rw (any_false (gathers_mac vlan_types) ps (λ s. gathers_none s.0 s.2))

mac_piece : (x : Piece) → gathers_mac every_type x ≡ true → MacTlv x
unfolding gathers_mac both
mac_piece (tlv k v) h = gathers_type k v h
mac_piece (block b) h = false_true h
mac_piece stump h = false_true h

-- a MAC that the full model does not mean: some TLV is of type 7 or 8
pub mac_missed : (ps : List Piece) (m : ℕ) → mac_meant every_type ps m ≡ false → Some MacTlv ps
unfolding mac_meant either
mac_missed ps m h = go (any_of (gathers_mac every_type) ps) refl h
  where
    go : (b : Bool) → any_of (gathers_mac every_type) ps ≡ b → either (not b) (any_of (brings_mac every_type m) ps) ≡ false → Some MacTlv ps
    go true e h = let s = any_true (gathers_mac every_type) ps e in (s.0, s.1, mac_piece s.0 s.2)
    go false e h = false_true (sym h)
