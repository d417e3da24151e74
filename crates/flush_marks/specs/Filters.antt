-- The tests of a slot by which a flush filters, and what the filters require of table and marks.
-- Assumes nothing.
use Rattle.std.specs.Prelude.{ℕ, ◌+◌, ◌≤◌, Bool, false, not, List, ◌≡◌, eqb, length}
use Rattle.numbers.specs.Tests.{both, either}
use Rattle.table.specs.Record.{record_of, kind_of, label_of, mac_of, nickname_of, label_from, unpacked, is_learned}
use Rattle.table.specs.Slots.{most_slots, slots_of}
use Rattle.table.specs.declared.Label.TheVariants.{Vlan, Fine}
use Rattle.flush.specs.Payload.{every_type, Piece, tlv, block, stump}
use Rattle.flush.specs.Meaning.{label_meant, mac_meant}
use Rattle.flush_marks.specs.Marks.{mark_bytes, NoMarks}

-- ---- the types of a message

-- a TLV of a type: type 6 means every label
unfoldable pub is_type : ℕ → Piece → Bool
is_type t (tlv k v) = eqb k t
is_type t (block b) = false
is_type t stump = false

-- ---- the tests of a slot

-- the slot holds a learned record whose nickname passes the test
unfoldable pub slot_named : (ℕ → Bool) → List ℕ → Bool
slot_named p r = both (is_learned (unpacked r)) (p (nickname_of (record_of r)))

-- the label in the slot is meant
unfoldable pub slot_labelled : List Piece → List ℕ → Bool
slot_labelled ps r = label_meant every_type ps (label_from (kind_of (record_of r)) (label_of (record_of r)))

-- the MAC in the slot is meant
unfoldable pub slot_addressed : List Piece → List ℕ → Bool
slot_addressed ps r = mac_meant every_type ps (mac_of (record_of r))

-- the slot has a VLAN that is meant, or no VLAN
unfoldable pub vlan_part : List Piece → List ℕ → Bool
vlan_part ps r = either (not (eqb (kind_of (record_of r)) 0)) (label_meant every_type ps (Vlan (label_of (record_of r))))

-- the slot has a fine-grained label that is meant, or none
unfoldable pub fine_slot : List Piece → List ℕ → Bool
fine_slot ps r = either (eqb (kind_of (record_of r)) 0) (label_meant every_type ps (Fine (label_of (record_of r))))

-- ---- what filters require

-- the marks have a bit for each slot of the table
pub record Filtering (t m : List ℕ) : Type 0 where
  pub long : length m ≡ mark_bytes
  pub few : slots_of t ≤ most_slots

-- the table has `count` slots from slot `from` on
pub record Within (from count : ℕ) (t : List ℕ) : Type 0 where
  pub few : slots_of t ≤ most_slots
  pub room : from + count ≤ slots_of t

-- and nothing is marked yet
pub record Marking (from count : ℕ) (t m : List ℕ) : Type 0 where
  pub within : Within from count t
  pub empty : NoMarks m
