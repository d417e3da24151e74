-- The widths of the lists that are written, and whether one list can be written.
-- Assumes nothing.
use Rattle.std.specs.Prelude.{ℕ, ◌*◌, ◌<◌, ◌≤◌, Bool, List, ◌≡◌}
use Rattle.numbers.specs.Tests.{both}
use Rattle.flush_write.specs.Writing.{blocks_good, per_tlv}
use Rattle.flush_write.specs.Areas.{blocks_in, items_whole}

-- a number of a list has 2, 4 or 8 bytes
pub record Item (k : ℕ) : Type 0 where
  pub least : 2 ≤ k
  pub most : k ≤ 8
  pub eight : (k ≡ 2 → ⊥) → (k ≡ 4 → ⊥) → k ≡ 8

-- numbers of k bytes in the list and of size in the message: the bytes of the list that fill a TLV
pub record Filling (k size full : ℕ) : Type 0 where
  pub item : Item k
  pub small : size ≤ 6
  pub some : 0 < per_tlv size
  pub short : 2 * size * per_tlv size < 256
  pub full_is : full ≡ per_tlv size * (2 * k)

-- whole blocks, not too many, each of them good
unfoldable pub list_good : ℕ → ℕ → ℕ → List ℕ → Bool
list_good k low high l = both (items_whole (2 * k) l) (blocks_good low high (blocks_in k l))
