-- What the searches' own answers mean, in the terms of port_map/specs.
-- Assumes nothing.
use Rattle.std.specs.Prelude.{ℕ, List, take, drop, Option, Some, None, Ok, Err}
use Rattle.numbers.specs.Result.{Outcome}
use Rattle.port_map.specs.Maps.{pair_bytes, Pair, pair_of}
use Rattle.port_map.specs.declared.PortVlan.{PortVlan}
use Rattle.port_map.specs.declared.CampusLabel.{CampusLabel}
use Rattle.numbers.specs.declared.refusals.Refusal.TheVariants.{NoPair}

-- the pair at an offset
abbrev pub pair_at : List ℕ → ℕ → Pair
pair_at m at = pair_of (take pair_bytes (drop at m))

abbrev pub label_as : Option CampusLabel → Outcome CampusLabel
label_as None = Err NoPair
label_as (Some l) = Ok l

abbrev pub vlan_as : Option PortVlan → Outcome PortVlan
vlan_as None = Err NoPair
vlan_as (Some v) = Ok v
