-- A map of at most one pair that stands for a slice of pairs, and what a search of the slice says.
-- Assumes nothing.
use Rattle.std.specs.Prelude.{ℕ, Bool, true, List, ◌≡◌, eqb, length, take, Option, Some, None}
use Rattle.numbers.specs.Tests.{pick}
use Rattle.port_map.specs.Maps.{port_vlan, campus_label, pair_bytes, pairs_in, pairs_good, map_good, label_for, vlan_for}
use Rattle.port_map.specs.declared.PortVlan.{PortVlan}
use Rattle.port_map.specs.declared.CampusLabel.{CampusLabel}
use Rattle.port_map_search.specs.Meaning.{label_as, vlan_as}
use Rattle.port_map_pairs.specs.Pairs.{as_pairs, pair_bytes_of}
use Rattle.port_map_pairs.specs.declared.MapPair.{MapPair}

-- ---- the pair

abbrev pub other_label : CampusLabel → CampusLabel
other_label l = campus_label (pick (eqb l.0 0) 1 0)

abbrev pub other_vlan : PortVlan → PortVlan
other_vlan v = port_vlan (pick (eqb v.0 1) 2 1)

-- what was found for a label, or a pair with another label
abbrev pub pair_for_label : CampusLabel → Option PortVlan → MapPair
pair_for_label l None = record { vlan = port_vlan 1; label = other_label l }
pair_for_label l (Some v) = record { vlan = v; label = l }

-- the same for a VLAN
abbrev pub pair_for_vlan : PortVlan → Option CampusLabel → MapPair
pair_for_vlan v None = record { vlan = other_vlan v; label = campus_label 0 }
pair_for_vlan v (Some l) = record { vlan = v; label = l }

-- ---- the map

-- of a slice of n pairs that is good or not: no bytes, a whole pair, a part of one
unfoldable pub lent_bytes : ℕ → Bool → ℕ
lent_bytes n good = pick (eqb n 0) 0 (pick good pair_bytes 1)

abbrev pub one_map : ℕ → Bool → MapPair → List ℕ
one_map n good p = take (lent_bytes n good) (pair_bytes_of p)

-- ---- what is known of a slice of pairs

pub record LabelSearched (ps : List MapPair) (n : ℕ) (good : Bool) (l : CampusLabel) (found : Option PortVlan) : Type 0 where
  pub count : n ≡ length ps
  pub judged : good ≡ pairs_good (as_pairs ps)
  pub searched : vlan_as found ≡ vlan_for (as_pairs ps) l

pub record VlanSearched (ps : List MapPair) (n : ℕ) (good : Bool) (v : PortVlan) (found : Option CampusLabel) : Type 0 where
  pub count : n ≡ length ps
  pub judged : good ≡ pairs_good (as_pairs ps)
  pub searched : label_as found ≡ label_for (as_pairs ps) v

-- two maps between which a search for the label does not tell, nor one for the VLAN
pub record LabelAlike (l : CampusLabel) (m k : List ℕ) : Type 0 where
  pub good : map_good m ≡ map_good k
  pub none : eqb (length m) 0 ≡ eqb (length k) 0
  pub found : map_good m ≡ true → vlan_for (pairs_in m) l ≡ vlan_for (pairs_in k) l

pub record VlanAlike (v : PortVlan) (m k : List ℕ) : Type 0 where
  pub good : map_good m ≡ map_good k
  pub found : map_good m ≡ true → label_for (pairs_in m) v ≡ label_for (pairs_in k) v
