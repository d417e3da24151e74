-- The contents area by its sections, one for each type of sub-TLV: what a piece, a TLV and a payload bring to one.
-- Assumes nothing.
use Rattle.std.specs.Prelude.{ℕ, leb, eqb, length}
use mathlib.Core.List.{List, [], ◌∷◌, map, flat_map}
use Rattle.numbers.specs.Tests.{pick, either}
use Rattle.hello.specs.Tlvs.{Tlv}
use Rattle.hello.specs.Pieces.{capability, geninfo, parameters_type, smart_mac_type, nickname_type, trees_type, capability_head, application, trill_application, geninfo_head, inside, tlv_pieces}
use Rattle.hello.specs.Contents.{Item, parameters, nicknames, trees, smart_mac, ignored, malformed}
use Rattle.hello.specs.Reading.{says}
use Rattle.hello.specs.Area.{counted, parameters_numbers, nickname_numbers, trees_numbers, smart_mac_numbers}

-- the numbers that an item brings to the section of a type: one list for its sub-TLV, or none
unfoldable pub brought : ℕ → Item → List (List ℕ)
brought k (parameters p) = pick (eqb k parameters_type) (parameters_numbers p ∷ []) []
brought k (nicknames r) = pick (eqb k nickname_type) (counted nickname_numbers r ∷ []) []
brought k (trees t) = pick (eqb k trees_type) (trees_numbers t ∷ []) []
brought k (smart_mac m) = pick (eqb k smart_mac_type) (smart_mac_numbers m ∷ []) []
brought k ignored = []
brought k malformed = []

-- lists one behind the other
unfoldable pub joined : List (List ℕ) → List ℕ
joined xs = flat_map (λ (x : List ℕ). x) xs

-- a section: how many lists there are, and they
unfoldable pub section : ℕ → List Item → List ℕ
section k is = length (flat_map (brought k) is) ∷ joined (flat_map (brought k) is)

-- the TLV that holds sub-TLVs of a type
abbrev pub holder_for : ℕ → ℕ
holder_for k = pick (either (eqb k parameters_type) (eqb k smart_mac_type)) geninfo capability

-- where the sub-TLVs of a TLV's value start; its end where there is none to read
unfoldable pub body_at : ℕ → List ℕ → ℕ
body_at h v =
    pick (eqb h capability)
    (pick (leb capability_head (length v)) capability_head (length v))
    (pick (leb 3 (length v))
    (pick (eqb (application v) trill_application)
    (pick (leb (geninfo_head v) (length v)) (geninfo_head v) (length v))
    (length v))
    (length v))

-- what a sub-TLV of the TLV that holds the type brings, and what a TLV brings
unfoldable pub sub_brought : ℕ → Tlv → List (List ℕ)
sub_brought k t = brought k (says (inside (holder_for k) t))

unfoldable pub tlv_brought : ℕ → Tlv → List (List ℕ)
tlv_brought k t = flat_map (brought k) (map says (tlv_pieces t))

-- and as numbers
unfoldable pub sub_numbers : ℕ → Tlv → List ℕ
sub_numbers k t = joined (sub_brought k t)

unfoldable pub tlv_numbers : ℕ → Tlv → List ℕ
tlv_numbers k t = joined (tlv_brought k t)
