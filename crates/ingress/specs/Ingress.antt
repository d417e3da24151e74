-- Inbound (2026-01): a native frame tagged with a mapped VLAN as a General frame with the label.
-- Assumes nothing.
use Rattle.std.specs.Prelude.{ℕ, ◌+◌, ◌*◌, ◌/◌, ◌%◌, ◌^◌, Bool, List, ◌∷◌, ◌++◌, leb, eqb, length, take, drop, Ok, Err}
use Rattle.numbers.specs.Tests.{pick, both, between}
use Rattle.numbers.specs.Result.{Outcome, check, and_then, settled}
use Rattle.numbers.specs.After.{OnArea, on_area}
use Rattle.numbers.specs.Bytes.{num, bytes_of}
use Rattle.numbers.specs.Ranges.{individual, nickname_good, vlan_good, last_address}
use Rattle.frame.specs.Settings.{settings_good}
use Rattle.frame.specs.Front.{all_rbridges, address_bytes, addresses_bytes}
use Rattle.frame.specs.Header.{field, word_at}
use Rattle.frame.specs.Labels.{is_tag, low12}
use Rattle.frame.specs.Fields.{Fields, least_content}
use Rattle.frame.specs.Formats.{tagged_addresses, untagged_outer, frame_length_good}
use Rattle.frame.specs.declared.Settings.{Settings}
use Rattle.convert.specs.Compaction.{written}
use Rattle.convert.specs.Expansion.{general_tail}
use Rattle.port_map.specs.Maps.{port_vlan, pairs_in, map_good, label_for}
use Rattle.port_map.specs.declared.PortVlan.{PortVlan}
use Rattle.port_map.specs.declared.CampusLabel.{CampusLabel}
use Rattle.ingress.specs.declared.Given.{Given}
use Rattle.numbers.specs.declared.refusals.Refusal.TheVariants.{SettingsBad, FrameLengthBad, HopsSpent, NicknameBad, LabelBad, SourceGroup, MulticastDisagrees, MapBad}

-- ---- what the caller gives

-- 1: "also a group outer source", an outer address of 2^48 or more, M neither 0 nor 1
unfoldable pub given_good : Given → Bool
given_good u = both (individual u.source) (both (leb u.destination last_address) (leb u.multicast 1))

-- "8 (0 or over 63)"
abbrev pub most_hops : ℕ
most_hops = 63

unfoldable pub hops_good : Given → Bool
hops_good u = between 1 most_hops u.hops

-- "9 (range only)": our own nickname is allowed
unfoldable pub nicks_good : Given → Bool
nicks_good u = both (nickname_good u.egress) (nickname_good u.ingress)

-- "12 (also M 0 with a group outer destination)"; M 1 goes with :40 alone
unfoldable pub destination_agrees : Given → Bool
destination_agrees u = pick (eqb u.multicast 1) (eqb u.destination all_rbridges) (individual u.destination)

-- ---- the native frame

-- its addresses, the priority and the VLAN of its tag, its content
pub record Native : Type 0 where
  pub dst : List ℕ
  pub src : List ℕ
  pub priority : ℕ
  pub vlan : PortVlan
  pub content : List ℕ

-- the tag's two bytes stand after the addresses and 8100; priority 3 bits, DEI 1, VLAN 12
abbrev pub native_of : List ℕ → Native
native_of f = record {
  dst = take address_bytes f;
  src = take address_bytes (drop address_bytes f);
  priority = word_at untagged_outer f / 2 ^ 13;
  vlan = port_vlan (low12 untagged_outer f);
  content = drop tagged_addresses f;
}

-- "6 and 10 (also untagged) from left to right": 10 without 8100, 6 where the tag is cut, 10 for VLAN 0 or FFF, 6 for content under 2
-- bytes. The addresses and the Ethertype are there, since a frame has 14 bytes
unfoldable pub native_parsed : List ℕ → Outcome Native
native_parsed f =
    check (is_tag (drop addresses_bytes f)) LabelBad
    (field tagged_addresses f
    (check (vlan_good (low12 untagged_outer f)) LabelBad
    (field least_content (drop tagged_addresses f)
    (Ok (native_of f)))))

-- ---- the General frame

-- "DEI, V, R and Op-Length are 0": M, hop count, nicknames
unfoldable pub header_of : Given → List ℕ
header_of u = bytes_of 2 (u.multicast * 2 ^ 11 + u.hops) ++ (bytes_of 2 u.egress ++ bytes_of 2 u.ingress)

-- "the native priority goes into both label parts": 893B with the high 12 bits of the label, 893B with the low ones
unfoldable pub fine_label : ℕ → CampusLabel → List ℕ
fine_label priority l =
    0x89 ∷ (0x3B ∷ (bytes_of 2 (priority * 2 ^ 13 + l.0 / 2 ^ 12)
    ++ (0x89 ∷ (0x3B ∷ bytes_of 2 (priority * 2 ^ 13 + l.0 % 2 ^ 12)))))

unfoldable pub fields_for : Given → Native → CampusLabel → Fields
fields_for u n l = record { header = header_of u; dst = n.dst; src = n.src; label = fine_label n.priority l; content = n.content }

-- "a General frame without outer tag"
unfoldable pub general_for : Given → Native → CampusLabel → List ℕ
general_for u n l = bytes_of address_bytes u.destination ++ (bytes_of address_bytes u.source ++ general_tail (fields_for u n l))

-- ---- the call

-- by how much the result is longer: outer addresses, 22F3, header and label in place of the tag
abbrev pub longer_by : ℕ
longer_by = 24

-- what is judged before the map is searched: 3 (frame, then result), 6 and 10, 11, 8, 9, 12
unfoldable pub judged : Given → List ℕ → Outcome Native
judged u f =
    check (frame_length_good (length f)) FrameLengthBad
    (check (frame_length_good (length f + longer_by)) FrameLengthBad
    (and_then (native_parsed f) λ n.
    check (individual (num n.src)) SourceGroup
    (check (hops_good u) HopsSpent
    (check (nicks_good u) NicknameBad
    (check (destination_agrees u) MulticastDisagrees
    (Ok n))))))

-- "Ingress order: 1 (also a group outer source), 21, 3 (frame, then result), 6 and 10 (also untagged) from left to right, 11, 8 (0 or over
-- 63), 9 (range only), 12 (also M 0 with a group outer destination), 22, 16"
unfoldable pub ingressing : Settings → List ℕ → Given → List ℕ → Outcome (List ℕ)
ingressing s m u f =
    check (settings_good s) SettingsBad
    (check (given_good u) SettingsBad
    (check (map_good m) MapBad
    (and_then (judged u f) λ n.
    and_then (label_for (pairs_in m) n.vlan) λ l.
    Ok (general_for u n l))))

unfoldable pub ingressed : Settings → List ℕ → Given → List ℕ → List ℕ → OnArea (Outcome ℕ)
ingressed s m u f area =
    settled (λ n. on_area (Err n) area)
    (and_then (ingressing s m u f) λ b. written Ok b area)
