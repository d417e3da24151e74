-- What holds of a port's map.
-- Assumes nothing.
use Rattle.std.specs.Prelude.{true, List, ◌≡◌, Ok}
use Rattle.port_map.specs.Maps.{Pair, pairs_good, label_for, vlan_for}
use Rattle.port_map.specs.declared.PortVlan.{PortVlan}
use Rattle.port_map.specs.declared.CampusLabel.{CampusLabel}

-- on a good map the two searches undo each other
pub record SearchInverse : Type 0 where
  pub there : (m : List Pair) (v : PortVlan) (l : CampusLabel) → pairs_good m ≡ true → label_for m v ≡ Ok l → vlan_for m l ≡ Ok v
  pub back : (m : List Pair) (v : PortVlan) (l : CampusLabel) → pairs_good m ≡ true → vlan_for m l ≡ Ok v → label_for m v ≡ Ok l
