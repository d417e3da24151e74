-- How the small model may differ from the full one.
-- Assumes nothing.
use Rattle.std.specs.Prelude.{ℕ, ◌<◌, true, ◌⊎◌, ◌≡◌, Ok}
use mathlib.Core.List.{List, Memᴰ}
use Rattle.table.specs.Record.{unpacked}
use Rattle.table.specs.Slots.{table_good, slots_of, slot_at, freed}
use Rattle.table.specs.declared.Label.TheVariants.{Vlan}
use Rattle.table.specs.declared.Entry.{Entry}
use Rattle.table.specs.declared.Slot.TheVariants.{Learned, Configured}
use Rattle.flush.specs.Payload.{every_type, Piece, tlv, block, stump, Payload, payload_of}
use Rattle.flush.specs.Flush.{flushed}
use Rattle.flush.specs.Sets.{Some, NicknameMeant, LabelMeant, MacMeant}
use Rattle.models.specs.Models.{small_types, full_types, flushed_by, Message, flushes_by}

-- the full model is the flush as it was
abbrev pub FullModel : Type 0
FullModel = (ingress : ℕ) (l t : List ℕ) → flushed ingress l t ≡ flushed_by full_types ingress l t

-- the slot holds a VLAN record: learned or configured, with a VLAN as its label
pub record VlanRecord (r : List ℕ) (e : Entry) : Type 0 where
  pub vlan : ℕ
  pub label : e.label ≡ Vlan vlan
  pub held : (unpacked r ≡ Learned e) ⊎ (unpacked r ≡ Configured e)

-- a TLV of type 7 or 8, an empty one too
abbrev pub MacTlv : Piece → Type 0
MacTlv (tlv k v) = (k ≡ 7) ⊎ (k ≡ 8)
MacTlv (block b) = ⊥
MacTlv stump = ⊥

-- the full model accepts every message of the list
abbrev pub Accepted : List Message → Type 0
Accepted ms = (m : Message) → Memᴰ m ms → (p : Payload) × (payload_of every_type m.payload ≡ Ok p)

-- no message of the list has a TLV of type 7 or 8
abbrev pub NoMacTlv : List Message → Type 0
NoMacTlv ms = (m : Message) → Memᴰ m ms → (p : Payload) → payload_of every_type m.payload ≡ Ok p → Some MacTlv p.pieces → ⊥

-- the record was learned, and the message means its nickname and its label and not its MAC
pub record Witness (r : List ℕ) (e : Entry) (m : Message) : Type 0 where
  pub learned : unpacked r ≡ Learned e
  pub payload : Payload
  pub read : payload_of every_type m.payload ≡ Ok payload
  pub nickname : NicknameMeant m.ingress payload.nicks e.nickname
  pub label : LabelMeant payload.pieces e.label
  pub mac : MacMeant payload.pieces e.mac → ⊥
  pub mac_tlv : Some MacTlv payload.pieces

-- a slot that held the VLAN record r with entry e: full is what the full model leaves of it, small what the small one does
pub record VlanSlot (ms : List Message) (r : List ℕ) (e : Entry) (full small : List ℕ) : Type 0 where
  pub cleared_too : full ≡ freed → small ≡ freed
  pub why : small ≡ freed → (full ≡ freed → ⊥) → (full ≡ r) × Some (Witness r e) ms
  pub same : NoMacTlv ms → small ≡ full
  pub full_is : (full ≡ r) ⊎ (full ≡ freed)
  pub small_is : (small ≡ r) ⊎ (small ≡ freed)

pub record VlanOnly : Type 0 where
  -- what the full model accepts the small one accepts, cut into the same pieces
  pub accepts : (l : List ℕ) (p : Payload) → payload_of full_types l ≡ Ok p → payload_of small_types l ≡ Ok p
  -- from equal tables, after any list of messages that the full model accepts
  pub slots : (ms : List Message) (t : List ℕ) → table_good t ≡ true → Accepted ms → (k : ℕ) → k < slots_of t → (e : Entry) → VlanRecord (slot_at k t) e
      → VlanSlot ms (slot_at k t) e (slot_at k (flushes_by full_types ms t)) (slot_at k (flushes_by small_types ms t))
