-- A payload cut into one flat list of pieces: the sub-TLVs of each TLV 242, the APPsub-TLVs of each TLV 251 of application 1.
-- Layouts of the two TLVs: RFC 7981 and RFC 6823.
-- Assumes nothing.
use Rattle.std.specs.Prelude.{ℕ, ◌+◌, ◌*◌, ◌/◌, ◌%◌, leb, eqb, length, take, drop, get_or}
use mathlib.Core.List.{List, [], ◌∷◌, map, flat_map}
use Rattle.numbers.specs.Tests.{pick}
use Rattle.numbers.specs.Bytes.{num}
use Rattle.hello.specs.Tlvs.{Tlv, tlv, stump, tlvs}

-- IS-IS Router Capability, and GENINFO with TRILL's application
abbrev pub capability : ℕ
capability = 242

abbrev pub geninfo : ℕ
geninfo = 251

abbrev pub trill_application : ℕ
trill_application = 1

-- the types that are read: Smart-Parameters and Smart-MAC of GENINFO (RFC 8384, 4.3), Nickname and Tree Identifiers of Router
-- Capability (RFC 7176)
abbrev pub parameters_type : ℕ
parameters_type = 22

abbrev pub smart_mac_type : ℕ
smart_mac_type = 23

abbrev pub nickname_type : ℕ
nickname_type = 6

abbrev pub trees_type : ℕ
trees_type = 8

-- a sub-TLV or an APPsub-TLV: the type of the TLV that holds it, its own type, its value
pub record Sub : Type 0 where
  pub holder : ℕ
  pub kind : ℕ
  pub value : List ℕ

-- a TLV of another kind or application is one piece that is skipped
pub data Piece : Type 0 where
  sub : Sub → Piece
  skipped : Piece
  broken : Piece

unfoldable pub inside : ℕ → Tlv → Piece
inside h (tlv k v) = sub (record { holder = h; kind = k; value = v })
inside h stump = broken

-- Router ID 4 bytes, flags 1
abbrev pub capability_head : ℕ
capability_head = 5

unfoldable pub capability_pieces : List ℕ → List Piece
capability_pieces v = pick (leb capability_head (length v)) (map (inside capability) (tlvs (drop capability_head v))) (broken ∷ [])

-- flags 1 byte, application 2, with flag 04 an IPv4 address, with flag 08 an IPv6 address
abbrev pub application : List ℕ → ℕ
application v = num (take 2 (drop 1 v))

abbrev pub geninfo_head : List ℕ → ℕ
geninfo_head v = 3 + (4 * (get_or v 0 0 / 4 % 2) + 16 * (get_or v 0 0 / 8 % 2))

unfoldable pub geninfo_pieces : List ℕ → List Piece
geninfo_pieces v =
    pick (leb 3 (length v))
    (pick (eqb (application v) trill_application)
    (pick (leb (geninfo_head v) (length v)) (map (inside geninfo) (tlvs (drop (geninfo_head v) v))) (broken ∷ []))
    (skipped ∷ []))
    (broken ∷ [])

unfoldable pub tlv_pieces : Tlv → List Piece
tlv_pieces (tlv k v) =
    pick (eqb k capability) (capability_pieces v)
    (pick (eqb k geninfo) (geninfo_pieces v)
    (skipped ∷ []))
tlv_pieces stump = broken ∷ []

unfoldable pub pieces : List ℕ → List Piece
pieces l = flat_map tlv_pieces (tlvs l)
