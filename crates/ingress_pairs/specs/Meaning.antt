-- The VLAN that a native frame asks of a map.
-- Assumes nothing.
use Rattle.std.specs.Prelude.{ℕ, ◌≤◌, List, ◌≡◌, length}
use Rattle.frame.specs.Labels.{low12}
use Rattle.frame.specs.Formats.{tagged_addresses, untagged_outer}
use Rattle.port_map.specs.Maps.{port_vlan}
use Rattle.port_map.specs.declared.PortVlan.{PortVlan}

-- v is the VLAN of the frame f, where it has room for a tag
abbrev pub VlanAsked : List ℕ → PortVlan → Type 0
VlanAsked f v = tagged_addresses ≤ length f → v ≡ port_vlan (low12 untagged_outer f)
