-- SearchInverse: with every VLAN and every label once, the first pair that a search finds is the only one.
-- Assumes nothing.
use Prim.Native.Nat.{ℕ}
use mathlib.Core.Bool.{Bool, true, false, not}
use mathlib.Core.List.{List, [], ◌∷◌, map}
use mathlib.Core.Path.{◌≡◌, refl, sym, ap, ◌∙◌}
use lib.Dec.{eqb}
use borrow.Author.Tests.{eqb-true, eq-eqb, not-true}
use Rattle.numbers.specs.Tests.{pick, both, either, any_of}
use Rattle.numbers.specs.Ranges.{vlan_good}
use Rattle.numbers.specs.Result.{Outcome}
use Rattle.numbers.proofs.Truth.{both_true, either_second, false_true}
use Rattle.numbers.proofs.Answers.{refused_got, got_got}
use Rattle.port_map.specs.declared.PortVlan.{PortVlan}
use Rattle.port_map.specs.declared.CampusLabel.{CampusLabel}
use Rattle.port_map.specs.Maps.{port_vlan, campus_label, Pair, good_once, vlan_of, label_of, fine_good, pairs_good, label_for, vlan_for}
use Rattle.port_map.specs.Claims.{SearchInverse}
use Rattle.std.specs.Prelude.{Ok, Err}
use Rattle.numbers.specs.declared.refusals.Refusal.TheVariants.{NoPair}

-- one search over a key and a value, as numbers; both searches are it
unfoldable search : (Pair → ℕ) → (Pair → ℕ) → List Pair → ℕ → Outcome ℕ
search key value [] x = Err NoPair
search key value (p ∷ ps) x = pick (eqb (key p) x) (Ok (value p)) (search key value ps x)

module _ (x y : ℕ) where
  to_label : (m : List Pair) → label_for m (port_vlan x) ≡ Ok (campus_label y) → search vlan_of label_of m x ≡ Ok y
  unfolding label_for search pick
  to_label [] h = refused_got NoPair (campus_label y) h
  to_label (p ∷ m) h = go (eqb (vlan_of p) x) (to_label m) h
    where
      go : (c : Bool) → (label_for m (port_vlan x) ≡ Ok (campus_label y) → search vlan_of label_of m x ≡ Ok y) → pick c (Ok p.label) (label_for m (port_vlan x)) ≡ Ok (campus_label y) → pick c (Ok (label_of p)) (search vlan_of label_of m x) ≡ Ok y
      go true later e = ap Ok (ap (λ (l : CampusLabel). l.0) (got_got p.label (campus_label y) e))
      go false later e = later e

  of_label : (m : List Pair) → search vlan_of label_of m x ≡ Ok y → label_for m (port_vlan x) ≡ Ok (campus_label y)
  unfolding label_for search pick
  of_label [] h = refused_got NoPair y h
  of_label (p ∷ m) h = go (eqb (vlan_of p) x) (of_label m) h
    where
      go : (c : Bool) → (search vlan_of label_of m x ≡ Ok y → label_for m (port_vlan x) ≡ Ok (campus_label y)) → pick c (Ok (label_of p)) (search vlan_of label_of m x) ≡ Ok y → pick c (Ok p.label) (label_for m (port_vlan x)) ≡ Ok (campus_label y)
      go true later e = ap (λ (n : ℕ). Ok (campus_label n)) (got_got (label_of p) y e)
      go false later e = later e

  to_vlan : (m : List Pair) → vlan_for m (campus_label x) ≡ Ok (port_vlan y) → search label_of vlan_of m x ≡ Ok y
  unfolding vlan_for search pick
  to_vlan [] h = refused_got NoPair (port_vlan y) h
  to_vlan (p ∷ m) h = go (eqb (label_of p) x) (to_vlan m) h
    where
      go : (c : Bool) → (vlan_for m (campus_label x) ≡ Ok (port_vlan y) → search label_of vlan_of m x ≡ Ok y) → pick c (Ok p.vlan) (vlan_for m (campus_label x)) ≡ Ok (port_vlan y) → pick c (Ok (vlan_of p)) (search label_of vlan_of m x) ≡ Ok y
      go true later e = ap Ok (ap (λ (l : PortVlan). l.0) (got_got p.vlan (port_vlan y) e))
      go false later e = later e

  of_vlan : (m : List Pair) → search label_of vlan_of m x ≡ Ok y → vlan_for m (campus_label x) ≡ Ok (port_vlan y)
  unfolding vlan_for search pick
  of_vlan [] h = refused_got NoPair y h
  of_vlan (p ∷ m) h = go (eqb (label_of p) x) (of_vlan m) h
    where
      go : (c : Bool) → (search label_of vlan_of m x ≡ Ok y → vlan_for m (campus_label x) ≡ Ok (port_vlan y)) → pick c (Ok (vlan_of p)) (search label_of vlan_of m x) ≡ Ok y → pick c (Ok p.vlan) (vlan_for m (campus_label x)) ≡ Ok (port_vlan y)
      go true later e = ap (λ (n : ℕ). Ok (port_vlan n)) (got_got (vlan_of p) y e)
      go false later e = later e

module _ (key value : Pair → ℕ) where
  found_step : (p : Pair) (ps : List Pair) (x y : ℕ) (c : Bool) → (search key value ps x ≡ Ok y → any_of (eqb y) (map value ps) ≡ true)
      → pick c (Ok (value p)) (search key value ps x) ≡ Ok y → either (eqb y (value p)) (any_of (eqb y) (map value ps)) ≡ true
  unfolding pick either
  found_step p ps x y true later h = rw (eq-eqb y (value p) (sym (got_got (value p) y h)))
  found_step p ps x y false later h = either_second (eqb y (value p)) _ (later h)

  -- a value that was found is among the values
  found-there : (ps : List Pair) (x y : ℕ) → search key value ps x ≡ Ok y → any_of (eqb y) (map value ps) ≡ true
  unfolding search any_of
  found-there [] x y h = refused_got NoPair y h
  found-there (p ∷ ps) x y h = found_step p ps x y (eqb (key p) x) (found-there ps x y) h

  apart : (ps : List Pair) (x y z : ℕ) (c : Bool) → eqb z y ≡ c → not (any_of (eqb z) (map value ps)) ≡ true → search key value ps x ≡ Ok y → c ≡ false
  apart ps x y z false e once h = refl
  apart ps x y z true e once h =
      let same : z ≡ y = eqb-true z y e in
      let none : any_of (eqb z) (map value ps) ≡ false = not-true _ once in
      let there : any_of (eqb z) (map value ps) ≡ true = ap (λ (k : ℕ). any_of (eqb k) (map value ps)) same ∙ found-there ps x y h in
      false_true (sym none ∙ there)

  inverse_step : (p : Pair) (ps : List Pair) (x y : ℕ) (c : Bool) → eqb (key p) x ≡ c → not (any_of (eqb (value p)) (map value ps)) ≡ true
      → (search key value ps x ≡ Ok y → search value key ps y ≡ Ok x)
      → pick c (Ok (value p)) (search key value ps x) ≡ Ok y → pick (eqb (value p) y) (Ok (key p)) (search value key ps y) ≡ Ok x
  unfolding pick
  inverse_step p ps x y true e once later h = rw (eq-eqb (value p) y (got_got (value p) y h), eqb-true (key p) x e)
  inverse_step p ps x y false e once later h = rw (apart ps x y (value p) (eqb (value p) y) refl once h) (later h)

  inverse : (good : ℕ → Bool) (ps : List Pair) (x y : ℕ) → good_once good (map value ps) ≡ true → search key value ps x ≡ Ok y → search value key ps y ≡ Ok x
  unfolding search good_once
  inverse good [] x y d h = refused_got NoPair y h
  inverse good (p ∷ ps) x y d h =
      let q = both_true (good (value p)) _ d in
      let r = both_true (not (any_of (eqb (value p)) (map value ps))) (good_once good (map value ps)) q.1 in
      inverse_step p ps x y (eqb (key p) x) refl r.0 (inverse good ps x y r.1) h

module _ (m : List Pair) (good : pairs_good m ≡ true) where
  once : (good_once vlan_good (map vlan_of m) ≡ true) × (good_once fine_good (map label_of m) ≡ true)
  unfolding pairs_good
  once = both_true (good_once vlan_good (map vlan_of m)) (good_once fine_good (map label_of m)) good

pub search_inverse : SearchInverse
search_inverse = record {
  there = λ m v l good h. of_vlan l.0 v.0 m (inverse vlan_of label_of fine_good m v.0 l.0 (once m good).1 (to_label v.0 l.0 m h));
  back = λ m v l good h. of_label v.0 l.0 m (inverse label_of vlan_of vlan_good m l.0 v.0 (once m good).0 (to_vlan l.0 v.0 m h));
}

-- a label that was found is one of the campus's
label_fits : (ps : List Pair) (x y : ℕ) → good_once fine_good (map label_of ps) ≡ true → search vlan_of label_of ps x ≡ Ok y → fine_good y ≡ true
unfolding search good_once pick
label_fits [] x y d h = refused_got NoPair y h
label_fits (p ∷ ps) x y d h = go (eqb (vlan_of p) x) (label_fits ps x y (both_true (not (any_of (eqb (label_of p)) (map label_of ps))) _ q.1).1) h
  where
    q : (fine_good (label_of p) ≡ true) × (both (not (any_of (eqb (label_of p)) (map label_of ps))) (good_once fine_good (map label_of ps)) ≡ true)
    q = both_true (fine_good (label_of p)) _ d

    go : (c : Bool) → (search vlan_of label_of ps x ≡ Ok y → fine_good y ≡ true) → pick c (Ok (label_of p)) (search vlan_of label_of ps x) ≡ Ok y → fine_good y ≡ true
    go true later e = ap fine_good (sym (got_got (label_of p) y e)) ∙ q.0
    go false later e = later e

pub label_found_fits : (m : List Pair) (v : PortVlan) (l : CampusLabel) → pairs_good m ≡ true → label_for m v ≡ Ok l → fine_good l.0 ≡ true
label_found_fits m v l good h = label_fits m v.0 l.0 (once m good).1 (to_label v.0 l.0 m h)
