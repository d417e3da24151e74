-- A port's map (2026-01): pairs of a VLAN of the port and a fine-grained label of the campus; when it is good, and the two searches.
-- Assumes nothing.
use Rattle.std.specs.Prelude.{ℕ, ◌%◌, Bool, true, not, List, [], ◌∷◌, map, leb, eqb, length, take, drop, Ok, Err}
use Rattle.numbers.specs.Tests.{pick, both, any_of}
use Rattle.numbers.specs.Result.{Outcome}
use Rattle.numbers.specs.Bytes.{num, parts}
use Rattle.numbers.specs.Ranges.{vlan_good, last_fine}
use Rattle.port_map.specs.declared.PortVlan.{PortVlan}
use Rattle.port_map.specs.declared.CampusLabel.{CampusLabel}
use Rattle.numbers.specs.declared.refusals.Refusal.TheVariants.{NoPair}

-- "A port's VLAN number and a campus label are two numberings, kept strictly apart"
abbrev pub port_vlan : ℕ → PortVlan
port_vlan n = record { 0 = n }

abbrev pub campus_label : ℕ → CampusLabel
campus_label n = record { 0 = n }

-- "a lent list of pairs of VLAN and fine-grained label"
pub record Pair : Type 0 where
  pub vlan : PortVlan
  pub label : CampusLabel

-- a pair takes 6 bytes: VLAN 2, label 4
abbrev pub vlan_bytes : ℕ
vlan_bytes = 2

abbrev pub pair_bytes : ℕ
pair_bytes = 6

unfoldable pub pair_of : List ℕ → Pair
pair_of b = record { vlan = port_vlan (num (take vlan_bytes b)); label = campus_label (num (drop vlan_bytes b)) }

unfoldable pub pairs_in : List ℕ → List Pair
pairs_in m = map pair_of (parts pair_bytes m)

-- ---- a good map

-- each number of the list is good, and stands there once
unfoldable pub good_once : (ℕ → Bool) → List ℕ → Bool
good_once good [] = true
good_once good (x ∷ xs) = both (good x) (both (not (any_of (eqb x) xs)) (good_once good xs))

abbrev pub vlan_of : Pair → ℕ
vlan_of p = p.vlan.0

abbrev pub label_of : Pair → ℕ
label_of p = p.label.0

-- a label over FFFFFF is bad
abbrev pub fine_good : ℕ → Bool
fine_good l = leb l last_fine

unfoldable pub pairs_good : List Pair → Bool
pairs_good ps = both (good_once vlan_good (map vlan_of ps)) (good_once fine_good (map label_of ps))

-- of the bytes lent: whole pairs. An empty map is good
unfoldable pub map_good : List ℕ → Bool
map_good m = both (eqb (length m % pair_bytes) 0) (pairs_good (pairs_in m))

-- ---- the two searches: the first pair, or 22

unfoldable pub label_for : List Pair → PortVlan → Outcome CampusLabel
label_for [] v = Err NoPair
label_for (p ∷ ps) v = pick (eqb p.vlan.0 v.0) (Ok p.label) (label_for ps v)

unfoldable pub vlan_for : List Pair → CampusLabel → Outcome PortVlan
vlan_for [] l = Err NoPair
vlan_for (p ∷ ps) l = pick (eqb p.label.0 l.0) (Ok p.vlan) (vlan_for ps l)
