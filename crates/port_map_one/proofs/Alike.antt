-- A slice of pairs and the map of at most one pair that stands for it do not differ for a search: an empty one is none, a bad one is bad,
-- and in a good one what was found has good numbers and is found again.
-- Assumes nothing.
use Prim.Native.Nat.{ℕ, ◌-◌}
use native.Mathlib.Omega.{arith}
use mathlib.Core.Bool.{Bool, true, false, not}
use mathlib.Core.List.{List, [], ◌∷◌, map}
use mathlib.Core.Path.{◌≡◌, refl, sym, ap, ◌∙◌}
use lib.Dec.{eqb}
use lib.ListN.{length, take}
use borrow.Author.Tests.{eqb-true, eq-eqb, ne_eqb}
use Rattle.numbers.specs.Tests.{pick, both, any_of, between}
use Rattle.numbers.specs.Ranges.{vlan_good}
use Rattle.numbers.proofs.Truth.{both_true, false_true}
use Rattle.numbers.proofs.Answers.{refused_got, got_got}
use Rattle.port_map.specs.Maps.{Pair, good_once, vlan_of, label_of, fine_good, pairs_good, map_good, label_for, vlan_for}
use Rattle.port_map.specs.declared.PortVlan.{PortVlan}
use Rattle.port_map.specs.declared.CampusLabel.{CampusLabel}
use Rattle.port_map.proofs.Searches.{search_inverse}
use Rattle.port_map_search.specs.Meaning.{label_as, vlan_as}
use Rattle.port_map_pairs.specs.Pairs.{as_pairs, pair_bytes_of, map_bytes_of}
use Rattle.port_map_pairs.specs.declared.MapPair.{MapPair}
use Rattle.port_map_pairs.proofs.Bytes.{map-length, map_pairs, map-good}
use Rattle.port_map_one.specs.One.{other_label, other_vlan, pair_for_label, pair_for_vlan, lent_bytes, one_map, LabelSearched, VlanSearched, LabelAlike, VlanAlike}
use Rattle.std.specs.Prelude.{Option, Some, None, Ok, Err}
use Rattle.numbers.specs.declared.refusals.Refusal.TheVariants.{NoPair}

-- ---- a good map's pairs have good numbers

first : (good : ℕ → Bool) (x : ℕ) (xs : List ℕ) → good_once good (x ∷ xs) ≡ true → (good x ≡ true) × (good_once good xs ≡ true)
unfolding good_once
first good x xs h =
    let q = both_true (good x) _ h in
    (q.0, (both_true (not (any_of (eqb x) xs)) _ q.1).1)

vlan_fits : (ps : List Pair) (l : CampusLabel) (v : PortVlan) → good_once vlan_good (map vlan_of ps) ≡ true → good_once fine_good (map label_of ps) ≡ true → vlan_for ps l ≡ Ok v
    → (vlan_good v.0 ≡ true) × (fine_good l.0 ≡ true)
unfolding vlan_for pick
vlan_fits [] l v a b h = refused_got NoPair v h
vlan_fits (p ∷ ps) l v a b h = go (eqb p.label.0 l.0) refl (vlan_fits ps l v x.1 y.1) h
  where
    x : (vlan_good (vlan_of p) ≡ true) × (good_once vlan_good (map vlan_of ps) ≡ true)
    x = first vlan_good (vlan_of p) (map vlan_of ps) a

    y : (fine_good (label_of p) ≡ true) × (good_once fine_good (map label_of ps) ≡ true)
    y = first fine_good (label_of p) (map label_of ps) b

    go : (c : Bool) → eqb p.label.0 l.0 ≡ c → (vlan_for ps l ≡ Ok v → (vlan_good v.0 ≡ true) × (fine_good l.0 ≡ true)) → pick c (Ok p.vlan) (vlan_for ps l) ≡ Ok v → (vlan_good v.0 ≡ true) × (fine_good l.0 ≡ true)
    go true e later k = (ap (λ (w : PortVlan). vlan_good w.0) (sym (got_got p.vlan v k)) ∙ x.0, ap fine_good (sym (eqb-true p.label.0 l.0 e)) ∙ y.0)
    go false e later k = later k

vlan_found_fits : (ps : List Pair) (l : CampusLabel) (v : PortVlan) → pairs_good ps ≡ true → vlan_for ps l ≡ Ok v → (vlan_good v.0 ≡ true) × (fine_good l.0 ≡ true)
unfolding pairs_good
vlan_found_fits ps l v g h = let q = both_true (good_once vlan_good (map vlan_of ps)) (good_once fine_good (map label_of ps)) g in vlan_fits ps l v q.0 q.1 h

-- ---- the map of one pair

one_good : (p : MapPair) → vlan_good p.vlan.0 ≡ true → fine_good p.label.0 ≡ true → pairs_good (as_pairs (p ∷ [])) ≡ true
unfolding pairs_good good_once any_of both
one_good p a b = rw (a, b)

one_vlan : (p : MapPair) (l : CampusLabel) → vlan_for (as_pairs (p ∷ [])) l ≡ pick (eqb p.label.0 l.0) (Ok p.vlan) (Err NoPair)
unfolding vlan_for
one_vlan p l = refl

one_label : (p : MapPair) (v : PortVlan) → label_for (as_pairs (p ∷ [])) v ≡ pick (eqb p.vlan.0 v.0) (Ok p.label) (Err NoPair)
unfolding label_for
one_label p v = refl

-- its bytes, by how many of them are lent
bytes_none : (good : Bool) (p : MapPair) → one_map 0 good p ≡ []
unfolding lent_bytes pick
bytes_none good p = refl

bytes_bad : (n : ℕ) (p : MapPair) → (n ≡ 0 → ⊥) → one_map n false p ≡ take 1 (pair_bytes_of p)
unfolding lent_bytes pick
bytes_bad n p h = rw (ne_eqb n 0 h)

bytes_whole : (n : ℕ) (p : MapPair) → (n ≡ 0 → ⊥) → one_map n true p ≡ map_bytes_of (p ∷ [])
unfolding lent_bytes pick map_bytes_of pair_bytes_of
bytes_whole n p h = rw (ne_eqb n 0 h)

part_bad : (p : MapPair) → map_good (take 1 (pair_bytes_of p)) ≡ false
unfolding map_good pair_bytes_of both
part_bad p = refl

part_some : (p : MapPair) → eqb (length (take 1 (pair_bytes_of p))) 0 ≡ false
unfolding pair_bytes_of
part_some p = refl

some_bytes : (p : MapPair) (ps : List MapPair) → eqb (length (map_bytes_of (p ∷ ps))) 0 ≡ false
some_bytes p ps = let e = map-length (p ∷ ps) in ne_eqb (length (map_bytes_of (p ∷ ps))) 0 (λ z. omega arith)

none_count : (p : MapPair) (ps : List MapPair) (n : ℕ) → n ≡ length (p ∷ ps) → n ≡ 0 → ⊥
none_count p ps n e z = omega arith

-- ---- a search for a label

other_label_not : (l : CampusLabel) → eqb (other_label l).0 l.0 ≡ false
unfolding pick
other_label_not l = go (eqb l.0 0) refl
  where
    go : (c : Bool) → eqb l.0 0 ≡ c → eqb (pick c 1 0) l.0 ≡ false
    go true e = ne_eqb 1 l.0 (λ z. let k = eqb-true l.0 0 e in omega arith)
    go false e = ne_eqb 0 l.0 (λ z. false_true (sym e ∙ eq-eqb l.0 0 (sym z)))

other_label_good : (l : CampusLabel) → fine_good (other_label l).0 ≡ true
unfolding pick
other_label_good l = go (eqb l.0 0)
  where
    go : (c : Bool) → fine_good (pick c 1 0) ≡ true
    go true = refl
    go false = refl

first_good : vlan_good 1 ≡ true
unfolding vlan_good between both
first_good = refl

label_pair_good : (ps : List MapPair) (l : CampusLabel) (r : Option PortVlan) → pairs_good (as_pairs ps) ≡ true → vlan_as r ≡ vlan_for (as_pairs ps) l → pairs_good (as_pairs (pair_for_label l r ∷ [])) ≡ true
label_pair_good ps l None g h = one_good (pair_for_label l None) first_good (other_label_good l)
label_pair_good ps l (Some v) g h = let q = vlan_found_fits (as_pairs ps) l v g (sym h) in one_good (pair_for_label l (Some v)) q.0 q.1

label_pair_found : (l : CampusLabel) (r : Option PortVlan) → vlan_as r ≡ vlan_for (as_pairs (pair_for_label l r ∷ [])) l
unfolding pick
label_pair_found l None = sym (one_vlan (pair_for_label l None) l ∙ rw (other_label_not l))
label_pair_found l (Some v) = sym (one_vlan (pair_for_label l (Some v)) l ∙ rw (eq-eqb l.0 l.0 refl))

label_alike_by : (ps : List MapPair) (n : ℕ) (good : Bool) (l : CampusLabel) (r : Option PortVlan) → n ≡ length ps → good ≡ pairs_good (as_pairs ps) → vlan_as r ≡ vlan_for (as_pairs ps) l
    → LabelAlike l (map_bytes_of ps) (one_map n good (pair_for_label l r))
unfolding map_bytes_of
label_alike_by [] n good l r count judged searched = rw (count, bytes_none good (pair_for_label l r)) (record { good = refl; none = refl; found = λ _. refl })
label_alike_by (p ∷ ps) n false l r count judged searched =
    rw (bytes_bad n (pair_for_label l r) (none_count p ps n count)) (record {
      good = map-good (p ∷ ps) ∙ sym judged ∙ sym (part_bad (pair_for_label l r));
      none = some_bytes p ps ∙ sym (part_some (pair_for_label l r));
      found = λ h. false_true (judged ∙ sym (map-good (p ∷ ps)) ∙ h);
    })
label_alike_by (p ∷ ps) n true l r count judged searched =
    let one = pair_for_label l r in
    rw (bytes_whole n one (none_count p ps n count)) (record {
      good = map-good (p ∷ ps) ∙ sym judged ∙ sym (label_pair_good (p ∷ ps) l r (sym judged) searched) ∙ sym (map-good (one ∷ []));
      none = some_bytes p ps ∙ sym (some_bytes one []);
      found = λ h. ap (λ qs. vlan_for qs l) (map_pairs (p ∷ ps)) ∙ sym searched ∙ label_pair_found l r ∙ ap (λ qs. vlan_for qs l) (sym (map_pairs (one ∷ [])));
    })

pub label_alike : (ps : List MapPair) (n : ℕ) (good : Bool) (l : CampusLabel) (r : Option PortVlan) → LabelSearched ps n good l r → LabelAlike l (map_bytes_of ps) (one_map n good (pair_for_label l r))
label_alike ps n good l r s = label_alike_by ps n good l r s.count s.judged s.searched

-- ---- a search for a VLAN

other_vlan_not : (v : PortVlan) → eqb (other_vlan v).0 v.0 ≡ false
unfolding pick
other_vlan_not v = go (eqb v.0 1) refl
  where
    go : (c : Bool) → eqb v.0 1 ≡ c → eqb (pick c 2 1) v.0 ≡ false
    go true e = ne_eqb 2 v.0 (λ z. let k = eqb-true v.0 1 e in omega arith)
    go false e = ne_eqb 1 v.0 (λ z. false_true (sym e ∙ eq-eqb v.0 1 (sym z)))

other_vlan_good : (v : PortVlan) → vlan_good (other_vlan v).0 ≡ true
unfolding pick vlan_good between both
other_vlan_good v = go (eqb v.0 1)
  where
    go : (c : Bool) → vlan_good (pick c 2 1) ≡ true
    go true = refl
    go false = refl

vlan_pair_good : (ps : List MapPair) (v : PortVlan) (r : Option CampusLabel) → pairs_good (as_pairs ps) ≡ true → label_as r ≡ label_for (as_pairs ps) v → pairs_good (as_pairs (pair_for_vlan v r ∷ [])) ≡ true
vlan_pair_good ps v None g h = one_good (pair_for_vlan v None) (other_vlan_good v) refl
vlan_pair_good ps v (Some l) g h =
    let q = vlan_found_fits (as_pairs ps) l v g (search_inverse.there (as_pairs ps) v l g (sym h)) in
    one_good (pair_for_vlan v (Some l)) q.0 q.1

vlan_pair_found : (v : PortVlan) (r : Option CampusLabel) → label_as r ≡ label_for (as_pairs (pair_for_vlan v r ∷ [])) v
unfolding pick
vlan_pair_found v None = sym (one_label (pair_for_vlan v None) v ∙ rw (other_vlan_not v))
vlan_pair_found v (Some l) = sym (one_label (pair_for_vlan v (Some l)) v ∙ rw (eq-eqb v.0 v.0 refl))

vlan_alike_by : (ps : List MapPair) (n : ℕ) (good : Bool) (v : PortVlan) (r : Option CampusLabel) → n ≡ length ps → good ≡ pairs_good (as_pairs ps) → label_as r ≡ label_for (as_pairs ps) v
    → VlanAlike v (map_bytes_of ps) (one_map n good (pair_for_vlan v r))
unfolding map_bytes_of
vlan_alike_by [] n good v r count judged searched = rw (count, bytes_none good (pair_for_vlan v r)) (record { good = refl; found = λ _. refl })
vlan_alike_by (p ∷ ps) n false v r count judged searched =
    rw (bytes_bad n (pair_for_vlan v r) (none_count p ps n count)) (record {
      good = map-good (p ∷ ps) ∙ sym judged ∙ sym (part_bad (pair_for_vlan v r));
      found = λ h. false_true (judged ∙ sym (map-good (p ∷ ps)) ∙ h);
    })
vlan_alike_by (p ∷ ps) n true v r count judged searched =
    let one = pair_for_vlan v r in
    rw (bytes_whole n one (none_count p ps n count)) (record {
      good = map-good (p ∷ ps) ∙ sym judged ∙ sym (vlan_pair_good (p ∷ ps) v r (sym judged) searched) ∙ sym (map-good (one ∷ []));
      found = λ h. ap (λ qs. label_for qs v) (map_pairs (p ∷ ps)) ∙ sym searched ∙ vlan_pair_found v r ∙ ap (λ qs. label_for qs v) (sym (map_pairs (one ∷ [])));
    })

pub vlan_alike : (ps : List MapPair) (n : ℕ) (good : Bool) (v : PortVlan) (r : Option CampusLabel) → VlanSearched ps n good v r → VlanAlike v (map_bytes_of ps) (one_map n good (pair_for_vlan v r))
vlan_alike ps n good v r s = vlan_alike_by ps n good v r s.count s.judged s.searched

-- ---- the bytes lent

pub lent_is : (n : ℕ) (good : Bool) (q p : MapPair) → p ≡ q → (b : List ℕ) → b ≡ pair_bytes_of p → (k : ℕ) → k ≡ lent_bytes n good → take (k - 0) b ≡ one_map n good q
lent_is n good q p ep b eb k ek = let e : k - 0 ≡ k = omega arith in rw (e, ek, eb, ep)
