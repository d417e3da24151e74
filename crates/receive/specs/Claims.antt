-- What holds of reading, with every map m, good or not; without one it is reading with the empty map.
-- Assumes nothing.
use Rattle.std.specs.Prelude.{ℕ, ◌+◌, ◌<◌, ◌≤◌, true, false, List, [], ◌≡◌, length, Ok, Err}
use Rattle.numbers.specs.After.{on_table}
use Rattle.table.specs.Slots.{slots_of}
use Rattle.table.specs.Claims.{Apart, LeavesAlone}
use Rattle.table.specs.declared.Label.{Label}
use Rattle.table.specs.declared.Learning.{Learning}
use Rattle.table.specs.declared.Learning.TheVariants.{Kept}
use Rattle.flush.specs.Payload.{every_type, Payload, payload_of}
use Rattle.flush.specs.Flush.{flushed}
use Rattle.flush.specs.Padding.{padded}
use Rattle.flush.specs.Claims.{learned_then_free, SlotFacts}
use Rattle.frame.specs.Header.{ingress_of}
use Rattle.frame.specs.Labels.{is_tag}
use Rattle.frame.specs.Fields.{Fields}
use Rattle.frame.specs.Formats.{longest_frame, parsed}
use Rattle.frame.specs.declared.Settings.{Settings}
use Rattle.port_map.specs.Maps.{map_good}
use Rattle.receive.specs.Before.{received_before}
use Rattle.receive.specs.Deciding.{is_own, channel_payload}
use Rattle.receive.specs.Receive.{port_received, received}
use Rattle.receive.specs.declared.ReadAnswer.TheVariants.{Delivered, Flushed}
use Rattle.numbers.specs.declared.refusals.Refusal.{Refusal}

-- demand 1: "A refusal returns its number and changes nothing: every lent area keeps its bytes"
abbrev pub ReadRefusal : Type 0
ReadRefusal =
    (s : Settings) (m f t o : List ℕ) (n : Refusal) → (port_received s m f t o).answer ≡ Err n → ((port_received s m f t o).table ≡ t) × ((port_received s m f t o).out ≡ o)

-- a table whose homes are apart stays so, for every value of the settings and every map
abbrev pub ReadingKeepsApart : Type 0
ReadingKeepsApart = (s : Settings) (m f t o : List ℕ) → Apart t → Apart (port_received s m f t o).table

-- "No answer tells which format arrived": reading sees of a frame only what is parsed of it
abbrev pub ReadsParsed : Type 0
ReadsParsed = (s : Settings) (m f g t o : List ℕ) → parsed s f ≡ parsed s g → port_received s m f t o ≡ port_received s m g t o

-- "Spoilt records .. are never changed", and configured ones keep their bytes
abbrev pub ReadingLeavesAlone : Type 0
ReadingLeavesAlone = (s : Settings) (m f t o : List ℕ) → LeavesAlone t (port_received s m f t o).table

-- a reading that answers a count: the frame's ingress nickname and payload, the table u afterwards and the count n are those of the
-- flush call; so it clears exactly the learned records in the three sets, slot by slot, and counts the slots learned before and free
-- after
pub record FlushRead (s : Settings) (f t u : List ℕ) (n : ℕ) : Type 0 where
  pub fields : Fields
  pub read : parsed s f ≡ Ok fields
  pub call : flushed (ingress_of fields.header) (channel_payload fields.content) t ≡ on_table (Ok n) u
  pub payload : Payload
  pub valid : payload_of every_type (channel_payload fields.content) ≡ Ok payload
  pub each : (k : ℕ) → k < slots_of t → SlotFacts payload (ingress_of fields.header) t u k
  pub same_length : length u ≡ length t
  pub count : n ≡ learned_then_free (slots_of t) t u

abbrev pub ReadFlushExact : Type 0
ReadFlushExact =
    (s : Settings) (m f t o : List ℕ) (n : ℕ) → (port_received s m f t o).answer ≡ (Ok (Flushed n)) → FlushRead s f t (port_received s m f t o).table n × ((port_received s m f t o).out ≡ o)

-- 2026-02: a frame that carries out a flush, padded by n zero bytes to a length that a frame may have, answers and leaves what the frame
-- without padding does, in either format
abbrev pub PaddedRead : Type 0
PaddedRead =
    (s : Settings) (m f t o : List ℕ) (k n : ℕ) → (port_received s m f t o).answer ≡ (Ok (Flushed k)) → length f + n ≤ longest_frame → port_received s m (padded n f) t o ≡ port_received s m f t o

-- 2026-01: "Without a map (an empty one is none), or with a VLAN label, delivery stays as it is"; so is all else
pub record NoMapNoChange : Type 0 where
  pub empty : (s : Settings) (f t o : List ℕ) → port_received s [] f t o ≡ received s f t o
  pub vlan : (s : Settings) (m f t o : List ℕ) (p : Fields) → map_good m ≡ true → parsed s f ≡ Ok p → is_tag p.label ≡ true → port_received s m f t o ≡ received s f t o

-- the settings s with Smart Endnodes on (1) or off (0)
abbrev pub with_smart : ℕ → Settings → Settings
with_smart n s = record {
  port = s.port;
  inner = s.inner;
  nickname = s.nickname;
  compact = s.compact;
  confidence = s.confidence;
  seconds = s.seconds;
  multihomed = s.multihomed;
  smart = n;
}

-- 2026-13: with Smart Endnodes off reading is as it was; on, it differs only where the ingress nickname is our own, and "learns nothing
-- from such frames (answer kept)"
pub record SmartPort : Type 0 where
  pub off : (s : Settings) (m f t o : List ℕ) → port_received (with_smart 0 s) m f t o ≡ received_before (with_smart 0 s) m f t o
  pub refused_alike : (s : Settings) (m f t o : List ℕ) (n : Refusal) → parsed s f ≡ Err n → port_received (with_smart 1 s) m f t o ≡ port_received (with_smart 0 s) m f t o
  pub others_alike : (s : Settings) (m f t o : List ℕ) (p : Fields) → parsed s f ≡ Ok p → is_own s (ingress_of p.header) ≡ false → port_received (with_smart 1 s) m f t o ≡ port_received (with_smart 0 s) m f t o
  pub own_kept : (s : Settings) (m f t o : List ℕ) (p : Fields) (l : Learning) (n : ℕ) (b : Label) → parsed s f ≡ Ok p → is_own s (ingress_of p.header) ≡ true → (port_received s m f t o).answer ≡ (Ok (Delivered l n b))
      → (l ≡ Kept) × ((port_received s m f t o).table ≡ t)
