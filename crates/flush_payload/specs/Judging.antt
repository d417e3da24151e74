-- What judging a payload finds: whether it is corrupt, and else which kinds of TLVs it has.
-- Assumes nothing.
use Rattle.std.specs.Prelude.{ℕ, ◌≤◌, Bool, true, false, List, [], ◌≡◌, eqb, length, drop, Ok, Err}
use Rattle.numbers.specs.Tests.{both, either, any_of, between}
use Rattle.flush.specs.Payload.{Types, Piece, tlv, block, stump, tlvs, corrupt, block_count, behind, pieces_of, made, payload_of}
use Rattle.flush_payload.specs.declared.Kinds.{Kinds}
use Rattle.numbers.specs.Result.{Outcome}
use Rattle.numbers.specs.declared.refusals.Refusal.{Refusal}
use Rattle.numbers.specs.declared.refusals.Refusal.TheVariants.{PayloadCorrupt}

-- ---- kinds of TLVs, by their types

-- all labels
abbrev pub every_kind : ℕ → Bool
every_kind k = eqb k 6

-- VLANs, in blocks or in a bit map
abbrev pub vlan_kind : ℕ → Bool
vlan_kind k = either (eqb k 1) (eqb k 2)

-- fine-grained labels, in blocks or in a list
abbrev pub list_kind : ℕ → Bool
list_kind k = either (eqb k 3) (eqb k 4)

-- fine-grained labels in a bit map
abbrev pub map_kind : ℕ → Bool
map_kind k = eqb k 5

-- MACs, in a list or in blocks
abbrev pub mac_kind : ℕ → Bool
mac_kind k = either (eqb k 7) (eqb k 8)

-- the piece is a TLV of the kind, and its type is implemented
unfoldable pub of_kind : Types → (ℕ → Bool) → Piece → Bool
of_kind types kind (tlv k v) = both (types k) (kind k)
of_kind types kind (block b) = false
of_kind types kind stump = false

-- the type is implemented, and has a row in document 01's table; other types are skipped by length
unfoldable pub ruled : Types → ℕ → Bool
ruled types k = both (types k) (between 1 8 k)

-- from offset `from` to offset `at` there are only empty TLVs of types without a rule: a test that none of these passes finds the same
-- from both
pub record EmptyPassed (l : List ℕ) (from at : ℕ) : Type 0 where
  pub order : from ≤ at
  pub place : at ≤ length l
  pub same : (test : Piece → Bool) → ((k : ℕ) → between 1 8 k ≡ false → test (tlv k []) ≡ false) → any_of test (tlvs (drop from l)) ≡ any_of test (tlvs (drop at l))

-- ---- what judging finds

-- n blocks, or which kinds of TLVs are among the pieces
pub record Noted (types : Types) (n : ℕ) (ps : List Piece) (f : Kinds) : Type 0 where
  pub blocks : f.blocks ≡ n
  pub every : f.every ≡ any_of (of_kind types every_kind) ps
  pub vlans : f.vlans ≡ any_of (of_kind types vlan_kind) ps
  pub lists : f.lists ≡ any_of (of_kind types list_kind) ps
  pub maps : f.maps ≡ any_of (of_kind types map_kind) ps
  pub macs : f.macs ≡ any_of (of_kind types mac_kind) ps

-- what was found of TLVs
pub record JudgedTlvs (types : Types) (ps : List Piece) (j : Outcome Kinds) : Type 0 where
  pub bad : (r : Refusal) → j ≡ Err r → (r ≡ PayloadCorrupt) × (any_of (corrupt types) ps ≡ true)
  pub good : (f : Kinds) → j ≡ Ok f → any_of (corrupt types) ps ≡ false
  pub noted : (f : Kinds) → j ≡ Ok f → Noted types 0 ps f

-- and of a payload
pub record JudgedPayload (types : Types) (l : List ℕ) (j : Outcome Kinds) : Type 0 where
  pub bad : (r : Refusal) → j ≡ Err r → payload_of types l ≡ Err r
  pub good : (f : Kinds) → j ≡ Ok f → payload_of types l ≡ Ok (made l)
  pub noted : (f : Kinds) → j ≡ Ok f → Noted types (block_count l) (pieces_of (block_count l) (behind l)) f

-- a TLV of type k adds its kind to what was noted
pub record NotedMore (k : ℕ) (f g : Kinds) : Type 0 where
  pub blocks : g.blocks ≡ f.blocks
  pub every : g.every ≡ either f.every (every_kind k)
  pub vlans : g.vlans ≡ either f.vlans (vlan_kind k)
  pub lists : g.lists ≡ either f.lists (list_kind k)
  pub maps : g.maps ≡ either f.maps (map_kind k)
  pub macs : g.macs ≡ either f.macs (mac_kind k)

-- no TLV is noted
pub record Nothing (n : ℕ) (f : Kinds) : Type 0 where
  pub blocks : f.blocks ≡ n
  pub every : f.every ≡ false
  pub vlans : f.vlans ≡ false
  pub lists : f.lists ≡ false
  pub maps : f.maps ≡ false
  pub macs : f.macs ≡ false
