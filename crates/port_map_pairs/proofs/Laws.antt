-- The search and the judgement pair by pair: what a turn of their loops knows; and that they are those of port_map/specs.
-- Assumes nothing.
use Prim.Native.Nat.{ℕ, ◌+◌, ◌<◌}
use native.Mathlib.Numerals.{add-one}
use mathlib.Core.Bool.{Bool, true, false, not}
use mathlib.Core.List.{List, [], ◌∷◌, map}
use mathlib.Core.Path.{◌≡◌, refl, ap, ◌∙◌}
use lib.Dec.{T, eqb, ltb, ltb→lt, nltb→le}
use lib.ListN.{length, get_or, drop, drop_of_length-le}
use lib.Seq.{drop-cons}
use Rattle.numbers.specs.Tests.{pick, both, either, any_of}
use Rattle.numbers.specs.Ranges.{vlan_good}
use Rattle.numbers.specs.Result.{Outcome}
use Rattle.port_map.specs.Maps.{good_once, vlan_of, label_of, fine_good, pairs_good, label_for, vlan_for}
use Rattle.port_map.specs.declared.PortVlan.{PortVlan}
use Rattle.port_map.specs.declared.CampusLabel.{CampusLabel}
use Rattle.port_map_search.specs.Meaning.{label_as, vlan_as}
use Rattle.port_map_pairs.specs.declared.MapPair.{MapPair}
use Rattle.port_map_pairs.specs.declared.Found.{Found}
use Rattle.port_map_pairs.specs.declared.Found.TheVariants.{Nothing, Vlan, Label, Twin}
use Rattle.port_map_pairs.specs.declared.Question.{Question}
use Rattle.port_map_pairs.specs.declared.Question.TheVariants.{VlanOf, LabelOf, TwinOf}
use Rattle.port_map_pairs.specs.Pairs.{as_pairs}
use Rattle.port_map_pairs.specs.Scan.{blank, asked_of, or_else, scanned, is_nothing, goes_on, vlan_in, label_in, judged_of, good_at, good_map}
use Rattle.std.specs.Prelude.{Ok}

-- ---- a turn of the search

-- it goes on: nothing is found, and a pair is left
pub goes_yes : (f : Found) (i n : ℕ) → T (goes_on f i n) → (f ≡ Nothing) × (i < n)
unfolding goes_on both
goes_yes Nothing i n h = (refl, ltb→lt i n h)
goes_yes (Vlan v) i n h = absurd h
goes_yes (Label l) i n h = absurd h
goes_yes Twin i n h = absurd h

-- it does not: what is found is the answer
pub goes_no : (q : Question) (f : Found) (i : ℕ) (l : List MapPair) → T (not (goes_on f i (length l))) → or_else f (scanned q (drop i l)) ≡ f
unfolding goes_on both scanned
goes_no q Nothing i l h = rw (drop_of_length-le l (nltb→le i (length l) h))
goes_no q (Vlan v) i l h = refl
goes_no q (Label w) i l h = refl
goes_no q Twin i l h = refl

-- a pair is asked
pub goes_next : (q : Question) (f g x : Found) (i : ℕ) (l : List MapPair) → f ≡ Nothing → i < length l → x ≡ or_else f (scanned q (drop i l)) → g ≡ asked_of q (get_or l i blank)
    → x ≡ or_else g (scanned q (drop (i + 1) l))
unfolding scanned
goes_next q f g x i l e h inv here = inv ∙ rw (e, drop-cons l i blank h, here, add-one i)

-- ---- a turn of the judgement

-- a pair of the map, from what the three calls say
pub good_at_lem : (l : List MapPair) (i : ℕ) (d : Bool) (r : Found) (k : Question) → k ≡ TwinOf (get_or l i blank) → r ≡ scanned k (drop (i + 1) l) → d ≡ judged_of (get_or l i blank) r → d ≡ good_at l i
unfolding good_at
good_at_lem l i d r k e₁ e₂ e₃ = rw (e₃, e₂, e₁)

-- it goes on: all is good so far, and a pair is left
pub keeps_yes : (t : Bool) (i n : ℕ) → T (both t (ltb i n)) → (t ≡ true) × (i < n)
unfolding both
keeps_yes true i n h = (refl, ltb→lt i n h)
keeps_yes false i n h = absurd h

-- it does not: what it has is the answer
pub keeps_no : (t : Bool) (i : ℕ) (l : List MapPair) → T (not (both t (ltb i (length l)))) → both t (good_map (drop i l)) ≡ t
unfolding both good_map
keeps_no true i l h = rw (drop_of_length-le l (nltb→le i (length l) h))
keeps_no false i l h = refl

pub keeps_next : (t g x : Bool) (i : ℕ) (l : List MapPair) → t ≡ true → i < length l → x ≡ both t (good_map (drop i l)) → g ≡ good_at l i → x ≡ both g (good_map (drop (i + 1) l))
unfolding both good_map good_at
keeps_next t g x i l e h inv here = inv ∙ rw (e, drop-cons l i blank h, here, add-one i)

pub keeps_first : (l : List MapPair) → good_map l ≡ both true (good_map l)
unfolding both
keeps_first l = refl

-- ---- the searches

found_vlan : (c : Bool) (v : PortVlan) (f : Found) (r : Outcome PortVlan) → vlan_as (vlan_in f) ≡ r → vlan_as (vlan_in (or_else (pick c (Vlan v) Nothing) f)) ≡ pick c (Ok v) r
unfolding pick
found_vlan true v f r e = refl
found_vlan false v f r e = e

pub vlan_scanned : (l : List MapPair) (w : CampusLabel) → vlan_as (vlan_in (scanned (VlanOf w) l)) ≡ vlan_for (as_pairs l) w
unfolding scanned asked_of vlan_for
vlan_scanned [] w = refl
vlan_scanned (p ∷ l) w = found_vlan (eqb p.label.0 w.0) p.vlan (scanned (VlanOf w) l) (vlan_for (as_pairs l) w) (vlan_scanned l w)

found_label : (c : Bool) (v : CampusLabel) (f : Found) (r : Outcome CampusLabel) → label_as (label_in f) ≡ r → label_as (label_in (or_else (pick c (Label v) Nothing) f)) ≡ pick c (Ok v) r
unfolding pick
found_label true v f r e = refl
found_label false v f r e = e

pub label_scanned : (l : List MapPair) (w : PortVlan) → label_as (label_in (scanned (LabelOf w) l)) ≡ label_for (as_pairs l) w
unfolding scanned asked_of label_for
label_scanned [] w = refl
label_scanned (p ∷ l) w = found_label (eqb p.vlan.0 w.0) p.label (scanned (LabelOf w) l) (label_for (as_pairs l) w) (label_scanned l w)

-- from what the three calls say
pub vlan_from : (l : List MapPair) (w : CampusLabel) (d : _) (r : Found) (k : Question) → k ≡ VlanOf w → r ≡ scanned k l → d ≡ vlan_in r → vlan_as d ≡ vlan_for (as_pairs l) w
vlan_from l w d r k e₁ e₂ e₃ = ap vlan_as (e₃ ∙ ap vlan_in (e₂ ∙ ap (λ (q : Question). scanned q l) e₁)) ∙ vlan_scanned l w

pub label_from_lem : (l : List MapPair) (w : PortVlan) (d : _) (r : Found) (k : Question) → k ≡ LabelOf w → r ≡ scanned k l → d ≡ label_in r → label_as d ≡ label_for (as_pairs l) w
label_from_lem l w d r k e₁ e₂ e₃ = ap label_as (e₃ ∙ ap label_in (e₂ ∙ ap (λ (q : Question). scanned q l) e₁)) ∙ label_scanned l w

-- ---- the judgement

-- no twin: the VLAN is not among the VLANs, nor the label among the labels
alone_step : (a b c d : Bool) (f : Found) → is_nothing f ≡ both (not c) (not d) → is_nothing (or_else (pick (either a b) Twin Nothing) f) ≡ both (not (either a c)) (not (either b d))
unfolding pick either both
alone_step true b c d f e = refl
alone_step false true true d f e = refl
alone_step false true false d f e = refl
alone_step false false c d f e = e

alone_is : (t : MapPair) (l : List MapPair) → is_nothing (scanned (TwinOf t) l) ≡ both (not (any_of (eqb t.vlan.0) (map vlan_of (as_pairs l)))) (not (any_of (eqb t.label.0) (map label_of (as_pairs l))))
unfolding scanned asked_of any_of both
alone_is t [] = refl
alone_is t (p ∷ l) = alone_step (eqb t.vlan.0 p.vlan.0) (eqb t.label.0 p.label.0) _ _ (scanned (TwinOf t) l) (alone_is t l)

-- the same tests in another order
sorted : (a b c d e f : Bool) → both (both (both a b) (both c d)) (both e f) ≡ both (both c (both a e)) (both d (both b f))
unfolding both
sorted true true true true true f = refl
sorted true true true true false f = refl
sorted true true true false true f = refl
sorted true true true false false f = refl
sorted true true false d e f = refl
sorted true false true true true f = refl
sorted true false true true false f = refl
sorted true false true false true f = refl
sorted true false true false false f = refl
sorted true false false d e f = refl
sorted false b true d e f = refl
sorted false b false d e f = refl

pub good_is : (l : List MapPair) → good_map l ≡ pairs_good (as_pairs l)
unfolding good_map judged_of pairs_good good_once both
good_is [] = refl
good_is (p ∷ l) =
    rw (good_is l, alone_is p l)
    (sorted (not (any_of (eqb p.vlan.0) (map vlan_of (as_pairs l)))) (not (any_of (eqb p.label.0) (map label_of (as_pairs l)))) (vlan_good p.vlan.0) (fine_good p.label.0) (good_once vlan_good (map vlan_of (as_pairs l))) (good_once fine_good (map label_of (as_pairs l))))
