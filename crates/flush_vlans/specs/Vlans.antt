-- The VLANs that the pieces of a message name, and the set of those that are meant.
-- Assumes nothing.
use Rattle.std.specs.Prelude.{ℕ, ◌<◌, Bool, false, List, ◌≡◌, eqb, length}
use Rattle.numbers.specs.Tests.{pick, any_of}
use Rattle.numbers.specs.Numberings.{bit_at}
use Rattle.table.specs.declared.Label.TheVariants.{Vlan}
use Rattle.flush.specs.Payload.{every_type, Piece, tlv, block, stump}
use Rattle.flush.specs.Meaning.{label_meant}
use Rattle.flush_sets.specs.Gains.{in_vlan_block, in_vlan_blocks, in_vlan_map}
use Rattle.flush_payload.specs.Judging.{every_kind, vlan_kind, of_kind}
use Rattle.flush_payload.specs.declared.Kinds.{Kinds}

-- a bit for each of 4,096 VLANs
abbrev pub vlan_bytes : ℕ
vlan_bytes = 512

-- the VLANs that a piece names: type 1 blocks, type 2 a bit map
unfoldable pub vlans_in : Piece → ℕ → Bool
vlans_in (tlv k v) x = pick (eqb k 1) (in_vlan_blocks v x) (pick (eqb k 2) (in_vlan_map v x) false)
vlans_in (block b) x = in_vlan_block b x
vlans_in stump x = false

-- and so some piece
unfoldable pub vlans_of : List Piece → ℕ → Bool
vlans_of ps x = any_of (λ p. vlans_in p x) ps

-- it was noted whether every label is meant, and whether there is a type of VLANs
pub record VlansNoted (ps : List Piece) (f : Kinds) : Type 0 where
  pub every : f.every ≡ any_of (of_kind every_type every_kind) ps
  pub vlans : f.vlans ≡ any_of (of_kind every_type vlan_kind) ps

-- a VLAN is meant exactly if the set has it
pub record VlansMeant (ps : List Piece) (s : List ℕ) : Type 0 where
  pub long : length s ≡ vlan_bytes
  pub each : (x : ℕ) → x < 4096 → bit_at x s ≡ label_meant every_type ps (Vlan x)
