-- WriterExact (request 2026-03): "Document 01's rules derive from it exactly the three sets asked for."
-- Assumes nothing.
use Rattle.std.specs.Prelude.{ℕ, ◌+◌, ◌-◌, ◌*◌, ◌/◌, ◌<◌, ◌≤◌, Bool, true, List, ◌++◌, ◌≡◌, leb, eqb, length, take, Ok, Err}
use Rattle.numbers.specs.Tests.{pick, both, either, any_of, between, all_of}
use Rattle.numbers.specs.Bytes.{AreBytes}
use Rattle.numbers.specs.Numberings.{vlans, fines, macs}
use Rattle.table.specs.Record.{unpacked}
use Rattle.table.specs.Slots.{table_good, slots_of, slot_at, freed}
use Rattle.table.specs.declared.Entry.{Entry}
use Rattle.table.specs.declared.Slot.TheVariants.{Learned}
use Rattle.table.specs.declared.Label.{Label}
use Rattle.table.specs.declared.Label.TheVariants.{Vlan, Fine}
use Rattle.flush.specs.Payload.{every_type, Payload, payload_of}
use Rattle.flush.specs.Meaning.{nickname_meant, label_meant, mac_meant}
use Rattle.flush.specs.Flush.{flushed}
use Rattle.flush.specs.Padding.{padded}
use Rattle.flush_write.specs.Writing.{Block, Asked, per_tlv, only_vlans, written_flush}
use Rattle.flush_write.specs.Areas.{asked_in, flush_written}
use Rattle.numbers.specs.declared.refusals.Refusal.TheVariants.{ListsBad}
use Rattle.numbers.specs.declared.refusals.Refusal.{Refusal}

-- ---- the sets asked for

abbrev pub block_has : ℕ → Block → Bool
block_has x b = between b.start b.end x

-- the listed nicknames, or the sender alone
abbrev pub nickname_asked : Asked → ℕ → ℕ → Bool
nickname_asked a ingress x = pick (eqb (length a.nicks) 0) (eqb x ingress) (any_of (λ n. eqb n x) a.nicks)

-- the labels of the blocks
abbrev pub label_asked : Asked → Label → Bool
label_asked a (Vlan x) = any_of (block_has x) a.vlan_blocks
label_asked a (Fine x) = any_of (block_has x) a.fine_blocks

-- the MACs of the blocks, or every MAC where none is given
abbrev pub mac_asked : Asked → ℕ → Bool
mac_asked a m = either (eqb (length a.mac_blocks) 0) (any_of (block_has m) a.mac_blocks)

-- ---- WriterExact

-- the payload means what was asked, member by member
pub record SaysAsked (a : Asked) (p : Payload) : Type 0 where
  pub nickname : (ingress x : ℕ) → nickname_meant ingress p.nicks x ≡ nickname_asked a ingress x
  pub label : (l : Label) → label_meant every_type p.pieces l ≡ label_asked a l
  pub mac : (m : ℕ) → mac_meant every_type p.pieces m ≡ mac_asked a m

-- nicknames have 16 bits, as those of an area of 2 bytes each do
abbrev pub NicksFit : Asked → Type 0
NicksFit a = all_of (λ n. leb n 0xFFFF) a.nicks ≡ true

-- accepted by the grammar, and exact
abbrev pub Means : Asked → List ℕ → Type 0
Means a l = (p : Payload) × (payload_of every_type l ≡ Ok p) × SaysAsked a p

pub record WriterExact : Type 0 where
  -- as written, and with zero bytes after it, as a link pads
  pub written : (a : Asked) (l : List ℕ) → NicksFit a → written_flush a ≡ Ok l → Means a l
  pub padded : (a : Asked) (l : List ℕ) (n : ℕ) → NicksFit a → written_flush a ≡ Ok l → Means a (padded n l)
  -- the VLAN block form with anything behind
  pub trailed : (a : Asked) (l r : List ℕ) → NicksFit a → only_vlans a ≡ true → written_flush a ≡ Ok l → Means a (l ++ r)

-- ---- WriterClears: "the table after flushing with it, record by record"

abbrev pub entry_asked : Asked → ℕ → Entry → Bool
entry_asked a ingress e = both (nickname_asked a ingress e.nickname) (both (label_asked a e.label) (mac_asked a e.mac))

-- slot k of the good table t, and of u afterwards
pub record SlotAsked (a : Asked) (ingress : ℕ) (t u : List ℕ) (k : ℕ) : Type 0 where
  pub cleared : (e : Entry) → unpacked (slot_at k t) ≡ Learned e → entry_asked a ingress e ≡ true → slot_at k u ≡ freed
  pub kept : ((e : Entry) → unpacked (slot_at k t) ≡ Learned e → entry_asked a ingress e ≡ true → ⊥) → slot_at k u ≡ slot_at k t

abbrev pub WriterClears : Type 0
WriterClears = (a : Asked) (l t : List ℕ) (ingress k : ℕ) → NicksFit a → written_flush a ≡ Ok l → table_good t ≡ true → k < slots_of t
    → SlotAsked a ingress t (flushed ingress l t).table k

-- ---- WriterLength

-- n blocks in TLVs: their bytes, and type and length of each TLV
abbrev pub tlvs_length : ℕ → ℕ → ℕ
tlvs_length size n = 2 * size * n + 2 * ((n + (per_tlv size - 1)) / per_tlv size)

abbrev pub flush_length : Asked → ℕ
flush_length a =
    2 + 2 * length a.nicks
    + pick (only_vlans a) (4 * length a.vlan_blocks)
    (tlvs_length vlans.size (length a.vlan_blocks) + (tlvs_length fines.size (length a.fine_blocks) + tlvs_length macs.size (length a.mac_blocks)))

-- the longest message: 255 of everything
abbrev pub longest_flush : ℕ
longest_flush = 6172

pub record WriterLength : Type 0 where
  pub length_is : (a : Asked) (l : List ℕ) → written_flush a ≡ Ok l → length l ≡ flush_length a
  pub most : (a : Asked) (l : List ℕ) → written_flush a ≡ Ok l → length l ≤ longest_flush
  -- "within 255 bytes": every count and length is one byte
  pub bytes : (a : Asked) (l : List ℕ) → written_flush a ≡ Ok l → AreBytes l

-- ---- WriterCalls: the same of the call, whose lists are areas of bytes

pub record WriterCalls : Type 0 where
  -- what it wrote means what the areas ask for: a nickname of two bytes has 16 bits
  pub exact : (ns vs fs ms out : List ℕ) (n : ℕ) → AreBytes ns → (flush_written ns vs fs ms out).answer ≡ Ok n
      → Means (asked_in ns vs fs ms) (take n (flush_written ns vs fs ms out).area)
  -- a refusal changes nothing, and with room for the longest message it is 23
  pub refusal : (ns vs fs ms out : List ℕ) (n : Refusal) → (flush_written ns vs fs ms out).answer ≡ Err n → (flush_written ns vs fs ms out).area ≡ out
  pub room : (ns vs fs ms out : List ℕ) (n : Refusal) → longest_flush ≤ length out → (flush_written ns vs fs ms out).answer ≡ Err n → n ≡ ListsBad
