-- The cases P1 to P11 of document 01, "Cases to prove, as a single table under a single statement".
-- Assumes nothing.
use Rattle.std.specs.Prelude.{ℕ, Bool, false, List, [], ◌∷◌, ◌++◌, ◌≡◌, Ok, Err}
use Rattle.numbers.specs.Tests.{between}
use Rattle.numbers.specs.After.{OnTable, on_table, OnArea, on_area}
use Rattle.table.specs.Record.{learned_state, unpacked, packed}
use Rattle.table.specs.Slots.{freed}
use Rattle.table.specs.declared.Label.{Label}
use Rattle.table.specs.declared.Label.TheVariants.{Vlan, Fine}
use Rattle.table.specs.declared.Entry.{Entry}
use Rattle.table.specs.declared.Slot.TheVariants.{Learned}
use Rattle.flush.specs.Payload.{every_type, Piece, tlv, block}
use Rattle.flush.specs.Meaning.{brings_label}
use Rattle.flush.specs.Flush.{flushed}
use Rattle.frame.specs.declared.Settings.{Settings}
use Rattle.convert.specs.Compaction.{compacted}
use Rattle.numbers.specs.Result.{Outcome}
use Rattle.numbers.specs.declared.refusals.Refusal.TheVariants.{PayloadCorrupt, NotCompactable}

-- a row of the table
pub data Case : Type 0 where
  -- these bytes are this learned entry, both ways
  records : List ℕ → Entry → Case
  -- a flush with this ingress nickname and payload, on this table, has this outcome
  flushes : ℕ → List ℕ → List ℕ → OnTable (Outcome ℕ) → Case
  -- a piece of a payload means exactly these labels
  means : Piece → (Label → Bool) → Case
  -- compacting this frame for the port 02-00-00-00-00-A1 into this area has this outcome
  compacts : List ℕ → List ℕ → OnArea (Outcome ℕ) → Case

abbrev pub far_port : Settings
far_port = record {
  port = 0x0200_0000_00A1;
  inner = 0x0200_0000_00C3;
  nickname = 0x0102;
  compact = 1;
  confidence = 20;
  seconds = 300;
  multihomed = 0;
  smart = 0;
}

abbrev pub Holds : Case → Type 0
Holds (records r e) = (unpacked r ≡ Learned e) × (packed learned_state e ≡ r)
Holds (flushes ingress payload t after) = flushed ingress payload t ≡ after
Holds (means p labels) = (l : Label) → brings_label every_type l p ≡ labels l
Holds (compacts f area after) = compacted far_port f area ≡ after

abbrev pub AllHold : List Case → Type 0
AllHold [] = Unit {0}
AllHold (c ∷ cs) = Holds c × AllHold cs

-- sets of labels
abbrev pub vlans_from : ℕ → ℕ → Label → Bool
vlans_from low high (Vlan x) = between low high x
vlans_from low high (Fine x) = false

abbrev pub fines_from : ℕ → ℕ → Label → Bool
fines_from low high (Vlan x) = false
fines_from low high (Fine x) = between low high x

abbrev pub no_label : Label → Bool
no_label l = false

-- P1
abbrev pub p1 : List ℕ
p1 = 0x40 ∷ 0x00 ∷ 0x01 ∷ 0x40 ∷ 0x40 ∷ 0x00 ∷ 0x00 ∷ 0x00 ∷ 0x00 ∷ 0x22 ∷ 0x46 ∷ 0x82 ∷ 0x81 ∷ 0x2C ∷ 0x00 ∷ []

abbrev pub p1_entry : Entry
p1_entry = record { label = Vlan 10; mac = 0x0200_0000_0001; nickname = 0x1234; confidence = 20; seconds = 300; multihomed = false }

abbrev pub flushed_to : ℕ → List ℕ → OnTable (Outcome ℕ)
flushed_to count t = on_table (Ok count) t

abbrev pub corrupt_on : List ℕ → OnTable (Outcome ℕ)
corrupt_on t = on_table (Err PayloadCorrupt) t

-- P2, P3, P7 to P9; the last row shows that P9's record would match if a label was gathered
abbrev pub flush_cases : List Case
flush_cases =
    flushes 0x1235 (0x01 ∷ 0x12 ∷ 0x34 ∷ 0x01 ∷ 0x00 ∷ 0x0A ∷ 0x00 ∷ 0x0C ∷ []) p1 (flushed_to 1 freed)
    ∷ flushes 0x1234 (0x00 ∷ 0x01 ∷ 0x00 ∷ 0x0A ∷ 0x00 ∷ 0x0A ∷ []) p1 (flushed_to 1 freed)
    ∷ flushes 0x1235 (0x00 ∷ 0x01 ∷ 0x00 ∷ 0x0A ∷ 0x00 ∷ 0x0A ∷ []) p1 (flushed_to 0 p1)
    ∷ flushes 0x1234 (0x00 ∷ 0x00 ∷ 0x01 ∷ 0x03 ∷ 0x00 ∷ 0x0A ∷ 0x00 ∷ []) p1 (corrupt_on p1)
    ∷ flushes 0x1234 (0x00 ∷ 0x00 ∷ 0x06 ∷ 0x01 ∷ []) p1 (corrupt_on p1)
    ∷ flushes 0x1234 (0x00 ∷ 0x00 ∷ 0x07 ∷ 0x06 ∷ 0x02 ∷ 0x00 ∷ 0x00 ∷ 0x00 ∷ 0x00 ∷ 0x01 ∷ []) p1 (flushed_to 0 p1)
    ∷ flushes 0x1234 (0x00 ∷ 0x00 ∷ 0x06 ∷ 0x00 ∷ 0x07 ∷ 0x06 ∷ 0x02 ∷ 0x00 ∷ 0x00 ∷ 0x00 ∷ 0x00 ∷ 0x01 ∷ []) p1 (flushed_to 1 freed)
    ∷ []

-- P4, P5 in both forms of the message; P6
abbrev pub meaning_cases : List Case
meaning_cases =
    means (block (0x00 ∷ 0x00 ∷ 0x0F ∷ 0xFF ∷ [])) (vlans_from 1 0xFFE)
    ∷ means (tlv 1 (0x00 ∷ 0x00 ∷ 0x0F ∷ 0xFF ∷ [])) (vlans_from 1 0xFFE)
    ∷ means (block (0x00 ∷ 0x0B ∷ 0x00 ∷ 0x0A ∷ [])) no_label
    ∷ means (tlv 1 (0x00 ∷ 0x0B ∷ 0x00 ∷ 0x0A ∷ [])) no_label
    ∷ means (tlv 5 (0xFF ∷ 0xFF ∷ 0xFE ∷ 0xC0 ∷ [])) (fines_from 0xFFFFFE 0xFFFFFF)
    ∷ means (tlv 5 (0xFF ∷ 0xFF ∷ 0xFE ∷ 0xFF ∷ [])) (fines_from 0xFFFFFE 0xFFFFFF)
    ∷ []

-- P10's frame with this inner destination
abbrev pub p10 : List ℕ → List ℕ
p10 dst =
    0x02 ∷ 0x00 ∷ 0x00 ∷ 0x00 ∷ 0x00 ∷ 0xA1 ∷ 0x02 ∷ 0x00 ∷ 0x00 ∷ 0x00 ∷ 0x00 ∷ 0xB2 ∷ 0x22 ∷ 0xF3
    ∷ 0x00 ∷ 0x05 ∷ 0x01 ∷ 0x02 ∷ 0x12 ∷ 0x34
    ∷ dst
    ++ (0x02 ∷ 0x00 ∷ 0x00 ∷ 0x00 ∷ 0x00 ∷ 0x01 ∷ 0x81 ∷ 0x00 ∷ 0x00 ∷ 0x0A ∷ 0x08 ∷ 0x00 ∷ 0x45 ∷ 0x00 ∷ [])

-- an area of 30 bytes, of which two are behind the compacted frame
abbrev pub area : List ℕ → List ℕ
area front = front ++ (0xEE ∷ 0xEF ∷ [])

abbrev pub blank : List ℕ
blank = 1 ∷ 2 ∷ 3 ∷ 4 ∷ 5 ∷ 6 ∷ 7 ∷ 8 ∷ 9 ∷ 10 ∷ 11 ∷ 12 ∷ 13 ∷ 14 ∷ 15 ∷ 16 ∷ 17 ∷ 18 ∷ 19 ∷ 20 ∷ 21 ∷ 22 ∷ 23 ∷ 24 ∷ 25 ∷ 26 ∷ 27 ∷ 28 ∷ []

abbrev pub p10_compact : List ℕ
p10_compact =
    0x02 ∷ 0x00 ∷ 0x00 ∷ 0x00 ∷ 0x00 ∷ 0x0D ∷ 0x02 ∷ 0x00 ∷ 0x00 ∷ 0x00 ∷ 0x00 ∷ 0x01 ∷ 0x81 ∷ 0x00 ∷ 0x00 ∷ 0x0A ∷ 0x22 ∷ 0xF3
    ∷ 0x00 ∷ 0x05 ∷ 0x01 ∷ 0x02 ∷ 0x12 ∷ 0x34 ∷ 0x08 ∷ 0x00 ∷ 0x45 ∷ 0x00 ∷ []

-- P10, P11
abbrev pub compaction_cases : List Case
compaction_cases =
    compacts (p10 (0x02 ∷ 0x00 ∷ 0x00 ∷ 0x00 ∷ 0x00 ∷ 0x0D ∷ [])) (area blank) (on_area (Ok 28) (area p10_compact))
    ∷ compacts (p10 (0x01 ∷ 0x80 ∷ 0xC2 ∷ 0x00 ∷ 0x00 ∷ 0x42 ∷ [])) (area blank) (on_area (Err NotCompactable) (area blank))
    ∷ []

-- the single statement
abbrev pub Cases : Type 0
Cases = AllHold (records p1 p1_entry ∷ (flush_cases ++ (meaning_cases ++ compaction_cases)))

-- ---- control addresses (2026-09)

-- P10's frame with the inner destination 01-80-C2-00-00-xx: it is 17, or compacted
abbrev pub group : ℕ → List ℕ
group last = 0x01 ∷ 0x80 ∷ 0xC2 ∷ 0x00 ∷ 0x00 ∷ last ∷ []

abbrev pub stays : ℕ → Case
stays last = compacts (p10 (group last)) (area blank) (on_area (Err NotCompactable) (area blank))

abbrev pub goes : ℕ → Case
goes last =
    compacts (p10 (group last)) (area blank)
    (on_area (Ok 28)
    (area
    (group last
    ++ (0x02 ∷ 0x00 ∷ 0x00 ∷ 0x00 ∷ 0x00 ∷ 0x01 ∷ 0x81 ∷ 0x00 ∷ 0x00 ∷ 0x0A ∷ 0x22 ∷ 0xF3
    ∷ 0x00 ∷ 0x05 ∷ 0x01 ∷ 0x02 ∷ 0x12 ∷ 0x34 ∷ 0x08 ∷ 0x00 ∷ 0x45 ∷ 0x00 ∷ []))))

-- "01-80-C2-00-00-00 to 0F, and 21": the ends, and the addresses beside them
abbrev pub ControlCases : Type 0
ControlCases = AllHold (stays 0x00 ∷ stays 0x0F ∷ goes 0x10 ∷ goes 0x20 ∷ stays 0x21 ∷ goes 0x22 ∷ [])
