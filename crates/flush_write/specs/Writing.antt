-- An Address Flush written (2026-03): what is asked for, when it is refused, and the bytes.
-- Assumes nothing.
use Rattle.std.specs.Prelude.{ℕ, zero, suc, ◌+◌, ◌*◌, ◌/◌, Bool, leb, eqb, length, take, drop, Ok}
use mathlib.Core.List.{List, [], ◌∷◌, ◌++◌, flat_map}
use Rattle.numbers.specs.Tests.{pick, both, all_of}
use Rattle.numbers.specs.Result.{Outcome, check}
use Rattle.numbers.specs.Bytes.{bytes_of}
use Rattle.numbers.specs.Ranges.{first_vlan, last_vlan, last_fine, last_address}
use Rattle.numbers.specs.Numberings.{vlans, fines, macs, nicknames}
use Rattle.numbers.specs.declared.refusals.Refusal.TheVariants.{ListsBad}

-- a block of numbers, both ends included
pub record Block : Type 0 where
  pub start : ℕ
  pub end : ℕ

-- the sets asked for
pub record Asked : Type 0 where
  pub nicks : List ℕ
  pub vlan_blocks : List Block
  pub fine_blocks : List Block
  pub mac_blocks : List Block

-- ---- refusal 23

-- "Lists are at most 255 nicknames and 255 blocks of each kind"
abbrev pub most_listed : ℕ
most_listed = 255

-- "an end below its start, a VLAN outside 1 to FFE, a label over FFFFFF, a MAC over 48 bits"
unfoldable pub block_good : ℕ → ℕ → Block → Bool
block_good low high b = both (leb low b.start) (both (leb b.start b.end) (leb b.end high))

-- "or a list too long"
unfoldable pub blocks_good : ℕ → ℕ → List Block → Bool
blocks_good low high bs = both (leb (length bs) most_listed) (all_of (block_good low high) bs)

-- "no label named"
unfoldable pub labels_named : Asked → Bool
labels_named a = leb 1 (length a.vlan_blocks + length a.fine_blocks)

unfoldable pub asked_good : Asked → Bool
asked_good a =
    both (labels_named a)
    (both (leb (length a.nicks) most_listed)
    (both (blocks_good first_vlan last_vlan a.vlan_blocks)
    (both (blocks_good 0 last_fine a.fine_blocks)
    (blocks_good 0 last_address a.mac_blocks))))

-- ---- the bytes: "reserved bits 0, nicknames and blocks in the order given"

unfoldable pub block_bytes : ℕ → Block → List ℕ
block_bytes size b = bytes_of size b.start ++ bytes_of size b.end

unfoldable pub blocks_bytes : ℕ → List Block → List ℕ
blocks_bytes size bs = flat_map (block_bytes size) bs

unfoldable pub nicks_bytes : List ℕ → List ℕ
nicks_bytes ns = flat_map (bytes_of nicknames.size) ns

-- a list in groups of n, the last one with what is left; at most k groups
unfoldable pub groups_from : ℕ → ℕ → List Block → List (List Block)
groups_from n zero bs = []
groups_from n (suc k) bs = pick (leb (length bs) 0) [] (take n bs ∷ groups_from n k (drop n bs))

-- all of them; none is empty
unfoldable pub groups : ℕ → List Block → List (List Block)
groups n bs = groups_from n (length bs) bs

-- "each as full as whole blocks within 255 bytes allow": 63 VLAN blocks, 42 fine-grained, 21 of MACs
abbrev pub per_tlv : ℕ → ℕ
per_tlv size = 255 / (2 * size)

unfoldable pub tlv_bytes : ℕ → List ℕ → List ℕ
tlv_bytes k v = k ∷ (length v ∷ v)

-- "no empty TLV": without blocks there is no group
unfoldable pub tlvs_bytes : ℕ → ℕ → List Block → List ℕ
tlvs_bytes k size bs = flat_map (λ g. tlv_bytes k (blocks_bytes size g)) (groups (per_tlv size) bs)

-- "in the VLAN block form when only VLANs are named and no MACs, in TLVs otherwise"
unfoldable pub only_vlans : Asked → Bool
only_vlans a = both (eqb (length a.fine_blocks) 0) (eqb (length a.mac_blocks) 0)

abbrev pub block_form : Asked → List ℕ
block_form a = length a.vlan_blocks ∷ blocks_bytes vlans.size a.vlan_blocks

-- "TLVs of types 1, 3 and 8 in that order"
abbrev pub tlv_form : Asked → List ℕ
tlv_form a = 0 ∷ (tlvs_bytes 1 vlans.size a.vlan_blocks ++ (tlvs_bytes 3 fines.size a.fine_blocks ++ tlvs_bytes 8 macs.size a.mac_blocks))

-- "An empty nickname list gives K-nicks 0"
unfoldable pub flush_bytes : Asked → List ℕ
flush_bytes a = length a.nicks ∷ (nicks_bytes a.nicks ++ pick (only_vlans a) (block_form a) (tlv_form a))

unfoldable pub written_flush : Asked → Outcome (List ℕ)
written_flush a = check (asked_good a) ListsBad (Ok (flush_bytes a))
