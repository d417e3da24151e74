-- The levels of counting: a TLV of another kind brings nothing, one that holds the type brings what its sub-TLVs bring, and a payload
-- what its TLVs bring.
-- Assumes nothing.
use Prim.Native.Nat.{ℕ, ◌<◌, ◌≤◌}
use mathlib.Core.Bool.{Bool, true, false}
use mathlib.Core.List.{List, [], ◌∷◌, map, flat_map}
use mathlib.Core.Path.{◌≡◌, refl, sym, ap, ◌∙◌}
use native.Mathlib.Omega.{arith}
use lib.Dec.{leb, eqb}
use lib.ListN.{length, drop, length-drop}
use borrow.Author.Tests.{eq-eqb, ne_eqb, le-leb, lt-leb, eqb-true}
use Rattle.numbers.specs.Tests.{pick, both, either}
use Rattle.numbers.specs.Bytes.{parts}
use Rattle.numbers.proofs.Truth.{both_true}
use Rattle.numbers.proofs.Lists.{map-append, flat_map-append}
use Rattle.hello.specs.Tlvs.{Tlv, tlv, stump, tlvs}
use Rattle.hello.specs.Pieces.{capability, geninfo, application, geninfo_head, Piece, skipped, broken, inside, capability_pieces, geninfo_pieces, tlv_pieces, pieces}
use Rattle.hello.specs.Contents.{Parameters, Nickname, Trees, SmartMac, Item, parameters, nicknames, trees, smart_mac, ignored, malformed}
use Rattle.hello.specs.Reading.{parameters_of, nickname_of, trees_of, smart_mac_of, sub_says, says, items}
use Rattle.hello.proofs.Cuts.{tlvs_end}
use Rattle.hello_count.specs.Sections.{brought, joined, holder_for, body_at, sub_brought, tlv_brought, sub_numbers, tlv_numbers}

-- ---- a sub-TLV of another type, or in another TLV

bring_pick : (k : ℕ) (c g : Bool) (x y : Item) → (c ≡ true → brought k x ≡ []) → brought k y ≡ [] → brought k (pick c (pick g x malformed) y) ≡ []
unfolding pick brought
bring_pick k true true x y p q = p refl
bring_pick k true false x y p q = refl
bring_pick k false g x y p q = q

pick_none : (c : Bool) (x : List (List ℕ)) → c ≡ false → pick c x [] ≡ []
unfolding pick
pick_none c x e = rw e

-- an item of another type
module _ (k : ℕ) where
  no_parameters : (p : Parameters) → eqb k 22 ≡ false → brought k (parameters p) ≡ []
  unfolding brought
  no_parameters p e = pick_none (eqb k 22) _ e

  no_nicknames : (r : List Nickname) → eqb k 6 ≡ false → brought k (nicknames r) ≡ []
  unfolding brought
  no_nicknames r e = pick_none (eqb k 6) _ e

  no_trees : (t : Trees) → eqb k 8 ≡ false → brought k (trees t) ≡ []
  unfolding brought
  no_trees t e = pick_none (eqb k 8) _ e

  no_macs : (m : SmartMac) → eqb k 23 ≡ false → brought k (smart_mac m) ≡ []
  unfolding brought
  no_macs m e = pick_none (eqb k 23) _ e

  no_ignored : brought k ignored ≡ []
  unfolding brought
  no_ignored = refl

pub held_22 : holder_for 22 ≡ 251
unfolding either pick
held_22 = refl

pub held_6 : holder_for 6 ≡ 242
unfolding either pick
held_6 = refl

pub held_8 : holder_for 8 ≡ 242
unfolding either pick
held_8 = refl

pub held_23 : holder_for 23 ≡ 251
unfolding either pick
held_23 = refl

module _ (h j k : ℕ) (other : h ≡ holder_for k → j ≡ k → ⊥) where
  not_this : (n m : ℕ) → holder_for n ≡ m → both (eqb h m) (eqb j n) ≡ true → eqb k n ≡ false
  not_this n m e p =
      let q = both_true (eqb h m) (eqb j n) p in
      ne_eqb k n (λ f. other (eqb-true h m q.0 ∙ sym (ap holder_for f ∙ e)) (eqb-true j n q.1 ∙ sym f))

  pub brings_none : (v : List ℕ) → brought k (sub_says h j v) ≡ []
  unfolding sub_says
  brings_none v =
      bring_pick k _ _ (parameters (parameters_of v)) _ (λ p. no_parameters k (parameters_of v) (not_this 22 251 held_22 p))
      (bring_pick k _ _ (nicknames (map nickname_of (parts 5 v))) _ (λ p. no_nicknames k (map nickname_of (parts 5 v)) (not_this 6 242 held_6 p))
      (bring_pick k _ _ (trees (trees_of v)) _ (λ p. no_trees k (trees_of v) (not_this 8 242 held_8 p))
      (bring_pick k _ _ (smart_mac (smart_mac_of v)) _ (λ p. no_macs k (smart_mac_of v) (not_this 23 251 held_23 p)) (no_ignored k))))

module _ (k j : ℕ) (v : List ℕ) (other : j ≡ k → ⊥) where
  none_of : sub_brought k (tlv j v) ≡ []
  unfolding sub_brought says inside
  none_of = brings_none (holder_for k) j k (λ _ e. other e) v

  pub none_numbers : 0 ≡ length (sub_numbers k (tlv j v))
  unfolding sub_numbers joined flat_map
  none_numbers = rw none_of

-- ---- gathering through the levels

pub flat_flat : {A B C : Type 0} (f : B → List C) (g : A → List B) (xs : List A) → flat_map f (flat_map g xs) ≡ flat_map (λ x. flat_map f (g x)) xs
unfolding flat_map
flat_flat f g [] = refl
flat_flat f g (x ∷ xs) = flat_map-append f (g x) (flat_map g xs) ∙ rw (flat_flat f g xs)

sub_level : (k h : ℕ) (ts : List Tlv) → flat_map (brought k) (map says (map (inside h) ts)) ≡ flat_map (λ t. brought k (says (inside h t))) ts
unfolding flat_map
sub_level k h [] = refl
sub_level k h (t ∷ ts) = rw (sub_level k h ts)

tlv_level : (k : ℕ) (ts : List Tlv) → flat_map (brought k) (map says (flat_map tlv_pieces ts)) ≡ flat_map (tlv_brought k) ts
unfolding flat_map tlv_brought
tlv_level k [] = refl
tlv_level k (t ∷ ts) =
    ap (flat_map (brought k)) (map-append says (tlv_pieces t) (flat_map tlv_pieces ts))
    ∙ flat_map-append (brought k) (map says (tlv_pieces t)) (map says (flat_map tlv_pieces ts))
    ∙ rw (tlv_level k ts)

pub joined_level : (k : ℕ) (l : List ℕ) → joined (flat_map (brought k) (items l)) ≡ flat_map (tlv_numbers k) (tlvs l)
unfolding pieces joined tlv_numbers
joined_level k l = ap joined (tlv_level k (tlvs l)) ∙ flat_flat (λ (x : List ℕ). x) (tlv_brought k) (tlvs l)

pub stump_numbers : (k : ℕ) → sub_numbers k stump ≡ []
unfolding sub_numbers sub_brought says inside brought joined flat_map
stump_numbers k = refl

pub tlv_stump_numbers : (k : ℕ) → tlv_numbers k stump ≡ []
unfolding tlv_numbers tlv_brought tlv_pieces flat_map says brought joined
tlv_stump_numbers k = refl

-- ---- a TLV

-- where its sub-TLVs start
module _ (v : List ℕ) where
  pub at_short : length v < 3 → length v ≡ body_at 251 v
  unfolding body_at pick
  at_short h = rw (lt-leb 3 (length v) h)

  module _ (room : 3 ≤ length v) (a : ℕ) (ea : a ≡ application v) where
    pub at_other : (a ≡ 1 → ⊥) → length v ≡ body_at 251 v
    unfolding body_at pick
    at_other d = rw (le-leb 3 (length v) room, ← ea, ne_eqb a 1 d)

    module _ (one : a ≡ 1) (s : ℕ) (es : s ≡ geninfo_head v) where
      pub at_cut : length v < s → length v ≡ body_at 251 v
      unfolding body_at pick
      at_cut h = rw (le-leb 3 (length v) room, ← ea, eq-eqb a 1 one, ← es, lt-leb s (length v) h)

      pub at_body : s ≤ length v → s ≡ body_at 251 v
      unfolding body_at pick
      at_body h = rw (le-leb 3 (length v) room, ← ea, eq-eqb a 1 one, ← es, le-leb s (length v) h)

  pub at_242_short : length v < 5 → length v ≡ body_at 242 v
  unfolding body_at pick
  at_242_short h = rw (lt-leb 5 (length v) h)

  pub at_242 : 5 ≤ length v → 5 ≡ body_at 242 v
  unfolding body_at pick
  at_242 h = rw (le-leb 5 (length v) h)

drop_none : (v : List ℕ) → tlvs (drop (length v) v) ≡ []
drop_none v = let d = length-drop (length v) v in tlvs_end (drop (length v) v) (omega arith)

-- its sub-TLVs where there are any to read, and else nothing
body_pick : (k h : ℕ) (v : List ℕ) (c : Bool) (x : List Piece) (n : ℕ)
    → flat_map (brought k) (map says x) ≡ flat_map (λ t. brought k (says (inside h t))) (tlvs (drop n v))
    → (y : List Piece) → flat_map (brought k) (map says y) ≡ []
    → flat_map (brought k) (map says (pick c x y)) ≡ flat_map (λ t. brought k (says (inside h t))) (tlvs (drop (pick c n (length v)) v))
unfolding pick flat_map
body_pick k h v true x n p y q = p
body_pick k h v false x n p y q = q ∙ rw (drop_none v)

broken_none : (k : ℕ) → flat_map (brought k) (map says (broken ∷ [])) ≡ []
unfolding flat_map says brought
broken_none k = refl

skipped_none : (k : ℕ) → flat_map (brought k) (map says (skipped ∷ [])) ≡ []
unfolding flat_map says brought
skipped_none k = refl

body_242 : (k : ℕ) (v : List ℕ) → tlv_brought k (tlv 242 v) ≡ flat_map (λ t. brought k (says (inside 242 t))) (tlvs (drop (body_at 242 v) v))
unfolding tlv_brought tlv_pieces capability_pieces body_at pick
body_242 k v = body_pick k 242 v (leb 5 (length v)) (map (inside 242) (tlvs (drop 5 v))) 5 (sub_level k 242 (tlvs (drop 5 v))) (broken ∷ []) (broken_none k)

body_251 : (k : ℕ) (v : List ℕ) → tlv_brought k (tlv 251 v) ≡ flat_map (λ t. brought k (says (inside 251 t))) (tlvs (drop (body_at 251 v) v))
unfolding tlv_brought tlv_pieces geninfo_pieces body_at pick
body_251 k v =
    let s : ℕ = geninfo_head v in
    body_pick k 251 v (leb 3 (length v)) _ _
    (body_pick k 251 v (eqb (application v) 1) _ _
    (body_pick k 251 v (leb s (length v)) (map (inside 251) (tlvs (drop s v))) s (sub_level k 251 (tlvs (drop s v))) (broken ∷ []) (broken_none k))
    (skipped ∷ []) (skipped_none k))
    (broken ∷ []) (broken_none k)

body_of : (k : ℕ) (v : List ℕ) (b : Bool) → tlv_brought k (tlv (pick b 251 242) v) ≡ flat_map (λ t. brought k (says (inside (pick b 251 242) t))) (tlvs (drop (body_at (pick b 251 242) v) v))
unfolding pick
body_of k v true = body_251 k v
body_of k v false = body_242 k v

module _ (k h : ℕ) (v : List ℕ) (r : ℕ) (er : r ≡ holder_for k) (same : h ≡ r) where
  held : h ≡ holder_for k
  held = same ∙ er

  body : tlv_brought k (tlv h v) ≡ flat_map (sub_brought k) (tlvs (drop (body_at h v) v))
  unfolding sub_brought
  body = rw held (body_of k v _)

  pub body_numbers : tlv_numbers k (tlv h v) ≡ flat_map (sub_numbers k) (tlvs (drop (body_at h v) v))
  unfolding tlv_numbers sub_numbers joined
  body_numbers = ap joined body ∙ flat_flat (λ (x : List ℕ). x) (sub_brought k) (tlvs (drop (body_at h v) v))

-- a TLV of another kind

flat_pick : (k : ℕ) (c : Bool) (x y : List Piece) → (c ≡ true → flat_map (brought k) (map says x) ≡ []) → flat_map (brought k) (map says y) ≡ [] → flat_map (brought k) (map says (pick c x y)) ≡ []
unfolding pick
flat_pick k true x y p q = p refl
flat_pick k false x y p q = q

inside_none : (k h : ℕ) → (h ≡ holder_for k → ⊥) → (ts : List Tlv) → flat_map (brought k) (map says (map (inside h) ts)) ≡ []
unfolding flat_map says inside brought
inside_none k h d [] = refl
inside_none k h d (tlv j v ∷ ts) = rw (brings_none h j k (λ e _. d e) v, inside_none k h d ts)
inside_none k h d (stump ∷ ts) = inside_none k h d ts

module _ (k h : ℕ) (v : List ℕ) (r : ℕ) (er : r ≡ holder_for k) (apart : h ≡ r → ⊥) where
  other : h ≡ holder_for k → ⊥
  other e = apart (e ∙ sym er)

  other_none : tlv_brought k (tlv h v) ≡ []
  unfolding tlv_brought tlv_pieces capability_pieces geninfo_pieces
  other_none =
      flat_pick k (eqb h capability) _ _
      (λ e. flat_pick k (leb 5 (length v)) _ _ (λ _. inside_none k 242 (λ f. other (eqb-true h 242 e ∙ f)) (tlvs (drop 5 v))) (broken_none k))
      (flat_pick k (eqb h geninfo) _ _
      (λ e.
      flat_pick k (leb 3 (length v)) _ _
      (λ _.
      flat_pick k (eqb (application v) 1) _ _
      (λ _. flat_pick k (leb (geninfo_head v) (length v)) _ _ (λ _. inside_none k 251 (λ f. other (eqb-true h 251 e ∙ f)) (tlvs (drop (geninfo_head v) v))) (broken_none k))
      (skipped_none k))
      (broken_none k))
      (skipped_none k))

  pub other_numbers : 0 ≡ length (tlv_numbers k (tlv h v))
  unfolding tlv_numbers joined flat_map
  other_numbers = rw other_none
