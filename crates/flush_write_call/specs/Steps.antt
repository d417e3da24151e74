-- What the steps of the writing call assume of the lists, and what they write.
-- Assumes nothing.
use Rattle.std.specs.Prelude.{ℕ, ◌/◌, ◌%◌, ◌≤◌, Bool, List, [], ◌∷◌, ◌++◌, ◌≡◌, leb, length}
use Rattle.numbers.specs.Tests.{both}
use Rattle.flush_write.specs.Writing.{most_listed, asked_good, tlvs_bytes}
use Rattle.flush_write.specs.Areas.{nick_item, vlan_item, fine_item, mac_item, nicks_in, blocks_in, asked_in, items_whole, areas_whole}

-- the tests of 23, all of them
unfoldable pub lists_good : List ℕ → List ℕ → List ℕ → List ℕ → Bool
lists_good ns vs fs ms = both (areas_whole ns vs fs ms) (asked_good (asked_in ns vs fs ms))

unfoldable pub nicks_good : List ℕ → Bool
nicks_good ns = both (items_whole nick_item ns) (leb (length (nicks_in ns)) most_listed)

-- an area of whole items of k bytes, at most 255
pub record Whole (k : ℕ) (l : List ℕ) : Type 0 where
  pub whole : length l % k ≡ 0
  pub few : length l / k ≤ 255

-- what the tests leave known of the lengths
pub record Sized (ns vs fs ms : List ℕ) : Type 0 where
  pub nicks : Whole 2 ns
  pub vlans : Whole 4 vs
  pub fines : Whole 8 fs
  pub macs : Whole 16 ms

-- K-nicks, the nicknames, K-VLBs
abbrev pub front_bytes : List ℕ → ℕ → List ℕ
front_bytes ns count = length ns / 2 ∷ (ns ++ (count ∷ []))

-- the TLVs of the three lists
abbrev pub lists_bytes : List ℕ → List ℕ → List ℕ → List ℕ
lists_bytes vs fs ms = tlvs_bytes 1 2 (blocks_in vlan_item vs) ++ (tlvs_bytes 3 3 (blocks_in fine_item fs) ++ tlvs_bytes 8 6 (blocks_in mac_item ms))
