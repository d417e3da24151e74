-- The numbers that TLVs name: one type in blocks, one in lists, and one, if there is one, in bit maps.
-- Assumes nothing.
use Rattle.std.specs.Prelude.{ℕ, Bool, true, false, List, eqb}
use Rattle.numbers.specs.Tests.{pick, both, any_of}
use Rattle.numbers.specs.Numberings.{fines, in_blocks, in_list, in_map}
use Rattle.flush.specs.Payload.{Piece, tlv, block, stump}
use Rattle.flush_parts.specs.declared.Naming.{Naming}

-- type 3 names fine-grained labels in blocks, type 4 in a list, type 5 in a bit map
abbrev pub fine_naming : Naming
fine_naming = record { blocks = 3; singles = 4; mapped = true; maps = 5; numbering = fines }

-- the numbers that a piece names
unfoldable pub named_in : Naming → Piece → ℕ → Bool
named_in d (tlv k v) x =
    pick (eqb k d.blocks) (in_blocks d.numbering x v)
    (pick (eqb k d.singles) (in_list d.numbering x v)
    (pick (both d.mapped (eqb k d.maps)) (in_map d.numbering x v)
    false))
named_in d (block b) x = false
named_in d stump x = false

-- and so some piece
unfoldable pub named_of : Naming → List Piece → ℕ → Bool
named_of d ps x = any_of (λ p. named_in d p x) ps
