-- What a map bears on: an empty one is good, and what is delivered stays; so does what is delivered of a frame with a VLAN label. What is
-- refused in place of a native frame is 22.
-- Assumes nothing.
use Prim.Native.Nat.{ℕ}
use mathlib.Core.Bool.{Bool, true, false}
use mathlib.Core.List.{List, [], ◌∷◌}
use mathlib.Core.Path.{◌≡◌, refl, ap}
use native.Mathlib.Omega.{arith}
use lib.Dec.{eqb}
use lib.ListN.{length}
use Rattle.numbers.specs.Tests.{pick, both}
use Rattle.numbers.specs.Bytes.{parts, parts_from}
use Rattle.numbers.specs.Result.{Outcome, check, and_then}
use Rattle.numbers.proofs.Truth.{either_second}
use Rattle.frame.specs.Fields.{Fields, native_bytes}
use Rattle.frame.specs.Labels.{is_tag}
use Rattle.port_map.specs.Maps.{Pair, pairs_in, good_once, pairs_good, map_good, vlan_for}
use Rattle.port_map.specs.declared.PortVlan.{PortVlan}
use Rattle.port_map.specs.declared.CampusLabel.{CampusLabel}
use Rattle.receive.specs.Delivering.{fine_in, tag_word, tagged_bytes, stays, native_out}
use Rattle.receive.specs.Receive.{acted, reading, received_with, port_received, received}
use Rattle.receive.specs.Claims.{NoMapNoChange}
use Rattle.std.specs.Prelude.{Ok, Err}
use Rattle.numbers.specs.declared.refusals.Refusal.TheVariants.{NoPair}
use Rattle.numbers.specs.declared.refusals.Refusal.{Refusal}

pub empty_good : map_good [] ≡ true
unfolding map_good both pairs_good good_once pairs_in parts parts_from
empty_good = refl

-- ---- 22

got_never : {A : Type 0} (a : A) (n : Refusal) → ◌≡◌ {A = Outcome A} (Ok a) (Err n) → n ≡ NoPair
got_never a n e = let z : ◌≡◌ {A = ℕ} 0 1 = cc in absurd (omega arith)

vlan_missing : (ps : List Pair) (l : CampusLabel) (n : Refusal) → vlan_for ps l ≡ Err n → n ≡ NoPair
unfolding vlan_for pick
vlan_missing [] l n e = cc
vlan_missing (p ∷ ps) l n e = go (eqb p.label.0 l.0) (vlan_missing ps l n) e
  where
    go : (c : Bool) → (vlan_for ps l ≡ Err n → n ≡ NoPair) → pick c (Ok p.vlan) (vlan_for ps l) ≡ Err n → n ≡ NoPair
    go true later h = got_never p.vlan n h
    go false later h = later h

pub native_missing : (m : List ℕ) (p : Fields) (n : Refusal) → native_out m p ≡ Err n → n ≡ NoPair
unfolding native_out pick and_then
native_missing m p n e = go (stays m p) (vlan_for (pairs_in m) (fine_in p.label)) (vlan_missing (pairs_in m) (fine_in p.label) n) e
  where
    go : (c : Bool) (r : Outcome PortVlan) → (r ≡ Err n → n ≡ NoPair)
        → pick c (Ok (native_bytes p)) (and_then r λ v. Ok (tagged_bytes p (tag_word p.label v))) ≡ Err n → n ≡ NoPair
    go true r only h = got_never _ n h
    go false (Err k) only h = only (ap Err (let z : k ≡ n = cc in z))
    go false (Ok v) only h = got_never _ n h

-- ---- delivery stays

pub native_stays : (m : List ℕ) (p : Fields) → stays m p ≡ true → native_out m p ≡ Ok (native_bytes p)
unfolding native_out pick
native_stays m p h = rw h

pub tag_stays : (m : List ℕ) (p : Fields) → is_tag p.label ≡ true → native_out m p ≡ Ok (native_bytes p)
unfolding stays
tag_stays m p h = native_stays m p (either_second (eqb (length m) 0) (is_tag p.label) h)

pub no_map_no_change : NoMapNoChange
unfolding received port_received received_with reading acted check and_then
no_map_no_change = record {
  empty = λ s f t o. refl;
  vlan = λ s m f t o p good read tag. rw (read, good, empty_good, tag_stays m p tag, tag_stays [] p tag);
}
