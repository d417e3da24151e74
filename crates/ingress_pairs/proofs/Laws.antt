-- Ingress sees of a map whether it is good, and the label of the VLAN in the frame's tag.
-- Assumes nothing.
use Prim.Native.Nat.{ℕ, ◌≤◌, ◌<◌, ◌%◌}
use native.Mathlib.Omega.{arith}
use mathlib.Core.Bool.{Bool, true, false}
use mathlib.Core.List.{List}
use mathlib.Core.Path.{◌≡◌, refl, sym, ap, ◌∙◌}
use lib.ListN.{length}
use Rattle.numbers.specs.Result.{Outcome, check, and_then}
use Rattle.numbers.specs.After.{OnArea}
use Rattle.numbers.proofs.Answers.{check_got, then_got}
use Rattle.frame.specs.Header.{word_at}
use Rattle.frame.specs.Labels.{low12}
use Rattle.frame.specs.declared.Settings.{Settings}
use Rattle.port_map.specs.Maps.{port_vlan, pairs_in, map_good, label_for}
use Rattle.port_map.specs.declared.PortVlan.{PortVlan}
use Rattle.port_map.specs.declared.CampusLabel.{CampusLabel}
use Rattle.port_map_pairs.specs.Pairs.{map_bytes_of}
use Rattle.port_map_pairs.specs.declared.MapPair.{MapPair}
use Rattle.port_map_one.specs.One.{VlanSearched, VlanAlike, pair_for_vlan, one_map}
use Rattle.port_map_one.proofs.Alike.{vlan_alike}
use Rattle.ingress.specs.Ingress.{Native, general_for, judged, ingressing, ingressed}
use Rattle.ingress.specs.declared.Given.{Given}
use Rattle.ingress.proofs.Accepted.{native_is}
use Rattle.ingress_pairs.specs.Meaning.{VlanAsked}
use Rattle.std.specs.Prelude.{Option, Ok, Err}
use Rattle.numbers.specs.declared.refusals.Refusal.TheVariants.{MapBad}

-- ---- the VLAN asked

pub asked_short : (f : List ℕ) → length f < 16 → (v : PortVlan) → VlanAsked f v
asked_short f h v k = absurd (omega arith)

pub asked_tag : (f : List ℕ) (w : ℕ) → w ≡ word_at 14 f → VlanAsked f (port_vlan (w % 0x1000))
asked_tag f w e k = ap (λ (n : ℕ). port_vlan (n % 0x1000)) e

-- what is judged a native frame has the VLAN of its tag
judged_vlan : (u : Given) (f : List ℕ) (n : Native) → judged u f ≡ Ok n → (16 ≤ length f) × (port_vlan (low12 14 f) ≡ n.vlan)
unfolding judged
judged_vlan u f n q =
    let a = check_got _ _ _ _ q in
    let b = check_got _ _ _ _ a.1 in
    let (k, kq, w) = then_got _ _ _ b.1 in
    let c = check_got _ _ _ _ w in
    let d = check_got _ _ _ _ c.1 in
    let x = check_got _ _ _ _ d.1 in
    let y = check_got _ _ _ _ x.1 in
    let is = native_is f n (kq ∙ y.1) in
    (is.long, ap (λ (z : Native). z.vlan) is.same)

-- ---- two maps between which a search for that VLAN does not tell

module _ (s : Settings) (u : Given) (f : List ℕ) (v : PortVlan) (asked : VlanAsked f v) (m k : List ℕ) (a : VlanAlike v m k) where
  abbrev taken : List ℕ → Native → Outcome (List ℕ)
  taken b n = and_then (label_for (pairs_in b) n.vlan) λ l. Ok (general_for u n l)

  taken_alike : (x : Outcome Native) → judged u f ≡ x → map_good m ≡ true → and_then x (taken m) ≡ and_then x (taken k)
  unfolding and_then
  taken_alike (Err n) q g = refl
  taken_alike (Ok n) q g =
      let is = judged_vlan u f n q in
      let same : v ≡ n.vlan = asked is.0 ∙ is.1 in
      ap (λ (r : Outcome CampusLabel). and_then r (λ l. Ok (general_for u n l))) (ap (label_for (pairs_in m)) (sym same) ∙ a.found g ∙ ap (label_for (pairs_in k)) same)

  taken_by : (c : Bool) → map_good m ≡ c → check c MapBad (and_then (judged u f) (taken m)) ≡ check c MapBad (and_then (judged u f) (taken k))
  unfolding check
  taken_by true e = taken_alike (judged u f) refl e
  taken_by false e = refl

  pub ingress_alike : (o : List ℕ) → ingressed s k u f o ≡ ingressed s m u f o
  unfolding ingressed ingressing
  ingress_alike o = rw (← a.good, taken_by (map_good m) refl)

-- ---- with what was found in a slice

module _ (s : Settings) (u : Given) (f o : List ℕ) (n : ℕ) (good : Bool) (v : PortVlan) (r : Option CampusLabel) where
  pub ingress_found : (m : List ℕ) → m ≡ one_map n good (pair_for_vlan v r) → (x : OnArea (Outcome ℕ)) → x ≡ ingressed s m u f o
      → (ps : List MapPair) → VlanSearched ps n good v r → VlanAsked f v → x ≡ ingressed s (map_bytes_of ps) u f o
  ingress_found m is x e ps k asked =
      e ∙ ap (λ (b : List ℕ). ingressed s b u f o) is ∙ ingress_alike s u f v asked (map_bytes_of ps) (one_map n good (pair_for_vlan v r)) (vlan_alike ps n good v r k) o
