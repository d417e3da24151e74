-- The native frame that is delivered: as it is, or with the VLAN of a port's map as its tag (2026-01, "Outbound").
-- Assumes nothing.
use Rattle.std.specs.Prelude.{ℕ, ◌+◌, ◌*◌, ◌/◌, ◌^◌, Bool, List, ◌++◌, eqb, length, Ok}
use Rattle.numbers.specs.Tests.{pick, either}
use Rattle.numbers.specs.Result.{Outcome, and_then}
use Rattle.numbers.specs.Bytes.{bytes_of}
use Rattle.frame.specs.Header.{word_at}
use Rattle.frame.specs.Labels.{tag_type, is_tag, low12}
use Rattle.frame.specs.Fields.{Fields, native_bytes}
use Rattle.port_map.specs.Maps.{campus_label, pairs_in, vlan_for}
use Rattle.port_map.specs.declared.PortVlan.{PortVlan}
use Rattle.port_map.specs.declared.CampusLabel.{CampusLabel}

-- the label of a fine-grained frame, as the campus numbers it; high 12 bits, then low 12 bits
abbrev pub fine_in : List ℕ → CampusLabel
fine_in l = campus_label (low12 2 l * 2 ^ 12 + low12 6 l)

-- the priority of a tag or of half a fine-grained label: the high 3 bits of its two bytes at k
abbrev pub priority_at : ℕ → List ℕ → ℕ
priority_at k l = word_at k l / 2 ^ 13

-- "with the second label part's priority and DEI 0"
unfoldable pub tag_word : List ℕ → PortVlan → ℕ
tag_word l v = priority_at 6 l * 2 ^ 13 + v.0

-- "a delivered fine-grained frame gets the VLAN tag back": after the two addresses, its two bytes being the number w
unfoldable pub tagged_bytes : Fields → ℕ → List ℕ
tagged_bytes p w = p.dst ++ (p.src ++ (tag_type ++ (bytes_of 2 w ++ p.content)))

-- "Without a map (an empty one is none), or with a VLAN label, delivery stays as it is"
unfoldable pub stays : List ℕ → Fields → Bool
stays m p = either (eqb (length m) 0) (is_tag p.label)

-- the bytes that are delivered with the map m, or 22
unfoldable pub native_out : List ℕ → Fields → Outcome (List ℕ)
native_out m p =
    pick (stays m p)
    (Ok (native_bytes p))
    (and_then (vlan_for (pairs_in m) (fine_in p.label)) λ v. Ok (tagged_bytes p (tag_word p.label v)))
