-- Reading a frame (document 01, "Numbers a caller can get" and "Address Flush"; 2026-01): one function from the settings, the port's
-- map, the frame, the table and the output area to the answer and both areas afterwards.
-- Assumes nothing.
use Rattle.std.specs.Prelude.{ℕ, not, List, [], leb, eqb, length, Ok, Err}
use Rattle.numbers.specs.Tests.{pick}
use Rattle.numbers.specs.Result.{Outcome, check, and_then, settled}
use Rattle.numbers.specs.After.{OnTable, on_table, OnBoth, on_both}
use Rattle.numbers.specs.Bytes.{num, laid}
use Rattle.numbers.specs.Ranges.{individual}
use Rattle.table.specs.Slots.{table_good}
use Rattle.table.specs.Learning.{learnt}
use Rattle.table.specs.declared.Entry.{Entry}
use Rattle.table.specs.declared.Learning.{Learning}
use Rattle.table.specs.declared.Learning.TheVariants.{Kept}
use Rattle.flush.specs.Payload.{every_type}
use Rattle.flush.specs.Flush.{clearing}
use Rattle.frame.specs.Settings.{settings_good, life_of, default_life}
use Rattle.frame.specs.Front.{trill_group}
use Rattle.frame.specs.Header.{field, hop_count, ingress_of}
use Rattle.frame.specs.Labels.{is_channel, label_read}
use Rattle.frame.specs.Fields.{Fields}
use Rattle.frame.specs.Formats.{parsed}
use Rattle.frame.specs.declared.Settings.{Settings}
use Rattle.port_map.specs.Maps.{map_good}
use Rattle.receive.specs.Deciding.{is_own, nicknames_good, is_onward, is_marked, channel_bytes, channel_protocol, channel_payload, flush_protocol, channel_good}
use Rattle.receive.specs.Delivering.{native_out}
use Rattle.receive.specs.declared.ReadAnswer.{ReadAnswer}
use Rattle.receive.specs.declared.ReadAnswer.TheVariants.{Onward, Delivered, OtherChannel, Flushed}
use Rattle.numbers.specs.declared.refusals.Refusal.TheVariants.{SettingsBad, TableLengthBad, HopsSpent, NicknameBad, SourceGroup, NotChannel, ChannelBad, AreaShort, MapBad}

-- the entry learned of a delivered frame: its source is reached through its ingress nickname; the frame's mark is the entry's
unfoldable pub learned_entry : ℕ → Settings → Fields → Entry
learned_entry life s p = record {
  label = label_read p.label;
  mac = num p.src;
  nickname = ingress_of p.header;
  confidence = s.confidence;
  seconds = life_of life s;
  multihomed = is_marked s p.header;
}

-- a delivered frame teaches its source; but a port "learns nothing from such frames (answer kept)", those with our own ingress
-- nickname (2026-13)
unfoldable pub taught : ℕ → Settings → Fields → List ℕ → OnTable Learning
taught life s p t = pick (is_own s (ingress_of p.header)) (on_table Kept t) (learnt (learned_entry life s p) t)

-- "the answer gives its length, its label, and learned, refreshed, kept or full": the length of the bytes b that are written, and the
-- label as the campus numbers it
abbrev pub delivered_with : Fields → List ℕ → List ℕ → OnTable Learning → OnBoth (Outcome ReadAnswer)
delivered_with p b o c = on_both (Ok (Delivered c.answer (length b) (label_read p.label))) c.table (laid b o)

-- the native frame is delivered and its source learned: 13, 22 where no VLAN is found for it, 16
unfoldable pub delivery : Outcome (List ℕ) → ℕ → Settings → Fields → List ℕ → List ℕ → Outcome (OnBoth (Outcome ReadAnswer))
delivery native life s p t o =
    check (not (trill_group (num p.dst))) NotChannel
    (and_then native λ b.
    check (leb (length b) (length o)) AreaShort
    (Ok (delivered_with p b o (taught life s p t))))

abbrev pub flushed_with : List ℕ → OnTable ℕ → OnBoth (Outcome ReadAnswer)
flushed_with o c = on_both (Ok (Flushed c.answer)) c.table o

-- "Channel frames write no native frame and teach no address": 6, 14, "other channel", 15
unfoldable pub channel : Settings → Fields → List ℕ → List ℕ → Outcome (OnBoth (Outcome ReadAnswer))
channel s p t o =
    field channel_bytes p.content
    (check (channel_good s p) ChannelBad
    (pick (eqb (channel_protocol p.content) flush_protocol)
    (and_then (clearing every_type (ingress_of p.header) (channel_payload p.content) t) λ c. Ok (flushed_with o c))
    (Ok (on_both (Ok OtherChannel) t o))))

-- on the fields read: 8, 9, 11; onward; the rest
unfoldable pub acted : List ℕ → ℕ → Settings → Fields → List ℕ → List ℕ → Outcome (OnBoth (Outcome ReadAnswer))
acted m life s p t o =
    check (not (eqb (hop_count p.header) 0)) HopsSpent
    (check (nicknames_good s p.header) NicknameBad
    (check (individual (num p.src)) SourceGroup
    (pick (is_onward s p.header)
    (Ok (on_both (Ok Onward) t o))
    (pick (is_channel p.content)
    (channel s p t o)
    (delivery (native_out m p) life s p t o)))))

-- "Order: 1, 2, 3, 5; then the fields from left to right", and 21 "after 2": what is parsed is all that is known of the frame
unfoldable pub reading : List ℕ → ℕ → Settings → Outcome Fields → List ℕ → List ℕ → Outcome (OnBoth (Outcome ReadAnswer))
reading m life s fields t o =
    check (settings_good s) SettingsBad
    (check (table_good t) TableLengthBad
    (check (map_good m) MapBad
    (and_then fields λ p.
    acted m life s p t o)))

-- the reading call with a port's map, `life` being the default of the learning seconds. "A refusal returns the number only and changes
-- nothing"
unfoldable pub received_with : ℕ → Settings → List ℕ → List ℕ → List ℕ → List ℕ → OnBoth (Outcome ReadAnswer)
received_with life s m f t o = settled (λ n. on_both (Err n) t o) (reading m life s (parsed s f) t o)

unfoldable pub port_received : Settings → List ℕ → List ℕ → List ℕ → List ℕ → OnBoth (Outcome ReadAnswer)
port_received s m f t o = received_with default_life s m f t o

-- without a map: "an empty one is none"
unfoldable pub received : Settings → List ℕ → List ℕ → List ℕ → OnBoth (Outcome ReadAnswer)
received s f t o = port_received s [] f t o
