-- The order of reading's refusals and answers on one page (document 01, "Numbers a caller can get"): rows from top to bottom, of which
-- the first that applies decides. `ReadsExactly` says that the reading call is this.
-- Assumes nothing.
use Rattle.std.specs.Prelude.{ℕ, ◌+◌, Bool, true, not, List, [], ◌∷◌, ◌++◌, ◌≡◌, leb, eqb, length, take, drop, Result, Ok, Err}
use Rattle.numbers.specs.Tests.{pick}
use Rattle.numbers.specs.Result.{settled}
use Rattle.numbers.specs.After.{OnBoth, on_both}
use Rattle.numbers.specs.Bytes.{num}
use Rattle.numbers.specs.Ranges.{individual, vlan_good}
use Rattle.table.specs.Slots.{table_good}
use Rattle.flush.specs.Payload.{every_type, made, payload_of}
use Rattle.flush.specs.Flush.{slot_meant, cleared_by}
use Rattle.frame.specs.Settings.{settings_good, compact_on, default_life}
use Rattle.frame.specs.Front.{trill_group, address_bytes, addresses_bytes, address_in, Front, unicast, multicast, refused_front, inner, front_of}
use Rattle.frame.specs.Header.{version_of, multicast_of, hop_count, ingress_of, fixed_bytes, header_bytes, agrees}
use Rattle.frame.specs.Labels.{ethertype_bytes, tag_bytes, fine_bytes, is_trill, is_tag, is_fine, is_channel, low12}
use Rattle.frame.specs.Fields.{Fields, least_content}
use Rattle.frame.specs.Formats.{tagged_addresses, untagged_outer, tagged_outer, frame_length_good}
use Rattle.frame.specs.declared.Settings.{Settings}
use Rattle.port_map.specs.Maps.{map_good}
use Rattle.receive.specs.Deciding.{nicknames_good, is_onward, channel_bytes, channel_protocol, channel_payload, flush_protocol, channel_good}
use Rattle.receive.specs.Delivering.{native_out}
use Rattle.receive.specs.Receive.{taught, delivered_with, flushed_with, port_received}
use Rattle.receive.specs.declared.ReadAnswer.{ReadAnswer}
use Rattle.receive.specs.declared.ReadAnswer.TheVariants.{Onward, OtherChannel}
use Rattle.numbers.specs.declared.refusals.Refusal.TheVariants.{SettingsBad, TableLengthBad, FrameLengthBad, NotTrill, NotForPort, CutShort, VersionBad, HopsSpent, NicknameBad, LabelBad, SourceGroup, MulticastDisagrees, NotChannel, ChannelBad, PayloadCorrupt, AreaShort, MapBad, NoPair}
use Rattle.numbers.specs.declared.refusals.Refusal.{Refusal}

-- ---- rows

-- an outcome where a test fails, and one where it passes
pub data Row (A : Type 0) : Type 0 where
  unless : Bool → A → Row A
  when : Bool → A → Row A

-- the first row that applies, and the last outcome where none does
unfoldable pub first_of : {A : Type 0} → List (Row A) → A → A
first_of [] last = last
first_of (unless b x ∷ rows) last = pick b (first_of rows last) x
first_of (when b x ∷ rows) last = pick b x (first_of rows last)

abbrev pub Outcome : Type 0
Outcome = Result (OnBoth (Result ReadAnswer Refusal)) Refusal

-- l is what is left of the frame: its next n bytes are there
abbrev pub there : ℕ → List ℕ → Bool
there n l = leb n (length l)

-- ---- the fields, each from where it begins

-- outer addresses, the optional tag, 22F3: a tag's Ethertype and its other two bytes are two fields
abbrev pub outer_rows : List ℕ → List (Row Outcome)
outer_rows f =
    unless (there untagged_outer f) (Err CutShort)
    ∷ pick (is_tag (drop addresses_bytes f))
    (unless (there tagged_addresses f) (Err CutShort) ∷ unless (there tagged_outer f) (Err CutShort) ∷ unless (is_trill (drop tagged_addresses f)) (Err NotTrill) ∷ [])
    (unless (is_trill (drop addresses_bytes f)) (Err NotTrill) ∷ [])

abbrev pub outer_end : List ℕ → ℕ
outer_end f = pick (is_tag (drop addresses_bytes f)) tagged_outer untagged_outer

-- "7 before 12, once all six header bytes are there"; then the options
abbrev pub header_rows : Front → List ℕ → List (Row Outcome)
header_rows d h =
    unless (there fixed_bytes h) (Err CutShort)
    ∷ unless (eqb (version_of h) 0) (Err VersionBad)
    ∷ unless (agrees d (multicast_of h)) (Err MulticastDisagrees)
    ∷ unless (there (header_bytes h) h) (Err CutShort)
    ∷ []

abbrev pub address_rows : List ℕ → List (Row Outcome)
address_rows a =
    unless (there address_bytes a) (Err CutShort)
    ∷ unless (there address_bytes (drop address_bytes a)) (Err CutShort)
    ∷ []

-- a VLAN label, or a fine-grained one
abbrev pub label_rows : List ℕ → List (Row Outcome)
label_rows l =
    unless (there ethertype_bytes l) (Err CutShort)
    ∷ pick (is_tag l)
    (unless (there tag_bytes l) (Err CutShort) ∷ unless (vlan_good (low12 2 l)) (Err LabelBad) ∷ [])
    (unless (is_fine l) (Err LabelBad)
    ∷ unless (there tag_bytes l) (Err CutShort)
    ∷ unless (there (tag_bytes + ethertype_bytes) l) (Err CutShort)
    ∷ unless (is_fine (drop tag_bytes l)) (Err LabelBad)
    ∷ unless (there fine_bytes l) (Err CutShort)
    ∷ [])

abbrev pub label_end : List ℕ → ℕ
label_end l = pick (is_tag l) tag_bytes fine_bytes

abbrev pub trill_rows : List ℕ → List (Row Outcome)
trill_rows l =
    unless (there ethertype_bytes l) (Err CutShort)
    ∷ unless (is_trill l) (Err NotTrill)
    ∷ []

abbrev pub content_rows : List ℕ → List (Row Outcome)
content_rows c = unless (there least_content c) (Err CutShort) ∷ []

-- ---- the two formats

-- General: outer part, header, inner addresses, label, content
module _ (f : List ℕ) where
  abbrev pub general_header : List ℕ
  general_header = drop (outer_end f) f

  abbrev pub general_addresses : List ℕ
  general_addresses = drop (header_bytes general_header) general_header

  abbrev pub general_label : List ℕ
  general_label = drop address_bytes (drop address_bytes general_addresses)

  abbrev pub general_content : List ℕ
  general_content = drop (label_end general_label) general_label

  abbrev pub general_rows : Front → List (Row Outcome)
  general_rows d = outer_rows f ++ (header_rows d general_header ++ (address_rows general_addresses ++ (label_rows general_label ++ content_rows general_content)))

  abbrev pub general_parts : Fields
  general_parts = record {
    header = take (header_bytes general_header) general_header;
    dst = take address_bytes general_addresses;
    src = take address_bytes (drop address_bytes general_addresses);
    label = take (label_end general_label) general_label;
    content = general_content;
  }

-- Compact: inner addresses, label, 22F3, header, content
module _ (f : List ℕ) where
  abbrev pub compact_label : List ℕ
  compact_label = drop address_bytes (drop address_bytes f)

  abbrev pub compact_type : List ℕ
  compact_type = drop (label_end compact_label) compact_label

  abbrev pub compact_header : List ℕ
  compact_header = drop ethertype_bytes compact_type

  abbrev pub compact_content : List ℕ
  compact_content = drop (header_bytes compact_header) compact_header

  abbrev pub compact_rows : List (Row Outcome)
  compact_rows = address_rows f ++ (label_rows compact_label ++ (trill_rows compact_type ++ (header_rows inner compact_header ++ content_rows compact_content)))

  abbrev pub compact_parts : Fields
  compact_parts = record {
    header = take (header_bytes compact_header) compact_header;
    dst = take address_bytes f;
    src = take address_bytes (drop address_bytes f);
    label = take (label_end compact_label) compact_label;
    content = compact_content;
  }

-- 5 "destination in front not for this port", then the fields of the format that it means
abbrev pub front_rows : Bool → Front → List ℕ → List (Row Outcome)
front_rows on unicast f = general_rows f unicast
front_rows on multicast f = general_rows f multicast
front_rows on refused_front f = when true (Err NotForPort) ∷ []
front_rows on inner f = unless on (Err NotForPort) ∷ compact_rows f

abbrev pub front_parts : Front → List ℕ → Fields
front_parts unicast f = general_parts f
front_parts multicast f = general_parts f
front_parts refused_front f = general_parts f
front_parts inner f = compact_parts f

-- ---- on the fields read, alike for both formats

abbrev pub is_got : {A : Type 0} → Result A Refusal → Bool
is_got (Err n) = not true
is_got (Ok a) = true

-- the bytes of a native frame that has some
abbrev pub native_written : List ℕ → Fields → List ℕ
native_written m p = settled (λ n. []) (native_out m p)

module _ (m : List ℕ) (s : Settings) (p : Fields) (t o : List ℕ) where
  abbrev pub decision_rows : List (Row Outcome)
  decision_rows =
      when (eqb (hop_count p.header) 0) (Err HopsSpent)
      ∷ unless (nicknames_good s p.header) (Err NicknameBad)
      ∷ unless (individual (num p.src)) (Err SourceGroup)
      ∷ when (is_onward s p.header) (Ok (on_both (Ok Onward) t o))
      ∷ []

  -- content 8946: a channel frame
  abbrev pub channel_rows : List (Row Outcome)
  channel_rows =
      unless (there channel_bytes p.content) (Err CutShort)
      ∷ unless (channel_good s p) (Err ChannelBad)
      ∷ unless (eqb (channel_protocol p.content) flush_protocol) (Ok (on_both (Ok OtherChannel) t o))
      ∷ unless (is_got (payload_of every_type (channel_payload p.content))) (Err PayloadCorrupt)
      ∷ []

  abbrev pub flushes_all : Outcome
  flushes_all = Ok (flushed_with o (cleared_by (slot_meant every_type (made (channel_payload p.content)) (ingress_of p.header)) t))

  -- any other content: a native frame
  abbrev pub native_rows : List (Row Outcome)
  native_rows =
      when (trill_group (num p.dst)) (Err NotChannel)
      ∷ unless (is_got (native_out m p)) (Err NoPair)
      ∷ unless (leb (length (native_written m p)) (length o)) (Err AreaShort)
      ∷ []

  abbrev pub delivers : Outcome
  delivers = Ok (delivered_with p (native_written m p) o (taught default_life s p t))

  abbrev pub acted_on : Outcome
  acted_on =
      first_of decision_rows
      (pick (is_channel p.content) (first_of channel_rows flushes_all) (first_of native_rows delivers))

-- ---- the whole

-- "Order: 1, 2, 3, 5; then the fields from left to right .. Then, on the fields read and alike for both formats: 8, 9, 11; onward; 13;
-- 6 where the four bytes after 8946 are cut; 14, 15, 16." With 2026-01: 21 "after 2", 22 "before 16".
abbrev pub read_in_order : Settings → List ℕ → List ℕ → List ℕ → List ℕ → Outcome
read_in_order s m f t o =
    first_of
    (unless (settings_good s) (Err SettingsBad)
    ∷ unless (table_good t) (Err TableLengthBad)
    ∷ unless (map_good m) (Err MapBad)
    ∷ unless (frame_length_good (length f)) (Err FrameLengthBad)
    ∷ front_rows (compact_on s) (front_of s (address_in f)) f)
    (acted_on m s (front_parts (front_of s (address_in f)) f) t o)

abbrev pub ReadsExactly : Type 0
ReadsExactly = (s : Settings) (m f t o : List ℕ) → port_received s m f t o ≡ settled (λ n. on_both (Err n) t o) (read_in_order s m f t o)
