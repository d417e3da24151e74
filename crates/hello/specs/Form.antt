-- A payload in plain form, told from its TLVs and pieces alone: what reading then writing gives back byte for byte.
-- Assumes nothing.
use Rattle.std.specs.Prelude.{ℕ, ◌+◌, ◌/◌, ◌%◌, ◌^◌, Bool, true, false, not, List, [], ◌∷◌, map, ◌≡◌, leb, eqb, length, take, drop}
use Rattle.numbers.specs.Tests.{both, either, pick, all_of}
use Rattle.numbers.specs.Bytes.{num}
use Rattle.hello.specs.Tlvs.{Tlv, tlv, stump, tlv_end, tlvs}
use Rattle.hello.specs.Pieces.{capability, geninfo, parameters_type, smart_mac_type, nickname_type, trees_type, Piece, sub, skipped, broken, tlv_pieces, pieces}
use Rattle.hello.specs.Contents.{Item, parameters, nicknames, trees, smart_mac, ignored, malformed}
use Rattle.hello.specs.Reading.{items}

-- the list starts with those bytes
unfoldable pub starts_as : List ℕ → List ℕ → Bool
starts_as [] l = true
starts_as (x ∷ xs) [] = false
starts_as (x ∷ xs) (y ∷ ys) = both (eqb y x) (starts_as xs ys)

-- header fields are 0, but for the application
unfoldable pub head_plain : Tlv → Bool
head_plain (tlv k v) =
    either (both (eqb k capability) (starts_as (0 ∷ 0 ∷ 0 ∷ 0 ∷ 0 ∷ []) v))
    (both (eqb k geninfo) (starts_as (0 ∷ 0 ∷ 1 ∷ []) v))
head_plain stump = false

-- a TLV holds something
unfoldable pub tlv_filled : Tlv → Bool
tlv_filled t = leb 1 (length (tlv_pieces t))

-- the 6 reserved bits of a Smart-MAC are 0, and with F 0 the upper 12 bits of the label
unfoldable pub reserved_zero : ℕ → Bool
reserved_zero x = both (eqb (x / 2 ^ 24 % 2 ^ 6) 0) (either (eqb (x / 2 ^ 31 % 2) 1) (eqb (x / 2 ^ 12 % 2 ^ 12) 0))

-- of a type that is not skipped, reserved bits 0
unfoldable pub sub_plain : ℕ → ℕ → List ℕ → Bool
sub_plain h k v =
    either (both (eqb h geninfo) (eqb k parameters_type))
    (either (both (eqb h capability) (eqb k nickname_type))
    (either (both (eqb h capability) (eqb k trees_type))
    (both (both (eqb h geninfo) (eqb k smart_mac_type)) (reserved_zero (num (take 4 v))))))

unfoldable pub piece_plain : Piece → Bool
piece_plain (sub s) = sub_plain s.holder s.kind s.value
piece_plain skipped = false
piece_plain broken = false

-- Smart-Parameters, then nicknames, then trees, then Smart-MACs
unfoldable pub rank : Item → ℕ
rank (parameters p) = 0
rank (nicknames r) = 1
rank (trees t) = 2
rank (smart_mac m) = 3
rank ignored = 4
rank malformed = 4

unfoldable pub rising : List ℕ → Bool
rising [] = true
rising (x ∷ []) = true
rising (x ∷ (y ∷ ys)) = both (leb x y) (rising (y ∷ ys))

-- where the sub-TLVs of a TLV in plain form start
abbrev pub body_at : ℕ → ℕ
body_at k = pick (eqb k capability) 5 3

-- of two neighbours of one kind, the first has no room for the first sub-TLV of the next
unfoldable pub apart : Tlv → Tlv → Bool
apart (tlv j v) (tlv k w) = either (not (eqb j k)) (leb 256 (length v + tlv_end (drop (body_at k) w)))
apart (tlv j v) stump = false
apart stump (tlv k w) = false
apart stump stump = false

unfoldable pub tight : List Tlv → Bool
tight [] = true
tight (t ∷ []) = true
tight (t ∷ (u ∷ us)) = both (apart t u) (tight (u ∷ us))

pub record PlainForm (l : List ℕ) : Type 0 where
  pub heads : all_of head_plain (tlvs l) ≡ true
  pub filled : all_of tlv_filled (tlvs l) ≡ true
  pub kinds : all_of piece_plain (pieces l) ≡ true
  pub order : rising (map rank (items l)) ≡ true
  pub full : tight (tlvs l) ≡ true
