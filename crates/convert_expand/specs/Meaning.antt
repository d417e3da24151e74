-- What the code's own steps mean, in the terms of convert/specs.
-- Assumes nothing.
use Rattle.std.specs.Prelude.{ℕ, ◌+◌, Bool, List, ◌++◌, eqb, length}
use Rattle.numbers.specs.Tests.{pick, both}
use Rattle.numbers.specs.Result.{Outcome, check}
use Rattle.numbers.specs.Bytes.{bytes_of}
use Rattle.numbers.specs.Ranges.{individual}
use Rattle.frame.specs.Settings.{settings_good}
use Rattle.frame.specs.Front.{address_bytes, address_in, all_rbridges, front_of}
use Rattle.frame.specs.Header.{multicast_of}
use Rattle.frame.specs.Fields.{Fields}
use Rattle.frame.specs.Formats.{frame_length_good}
use Rattle.frame.specs.declared.Settings.{Settings}
use Rattle.convert.specs.Expansion as spec
use Rattle.convert_expand.specs.declared.Outer.{Outer}
use Rattle.numbers.specs.declared.refusals.Refusal.TheVariants.{SettingsBad, FrameLengthBad}

-- the outer part that the caller gives
abbrev pub outer_as : Outer → spec.Outer
outer_as u = record { source = u.source; tagged = u.tagged; tag = u.tag }

-- all tests with refusal 1, and both with refusal 3
unfoldable pub outer_good : Settings → spec.Outer → Bool
outer_good s u = both (settings_good s) (both (individual u.source) (spec.tag_good u))

unfoldable pub lengths_good : ℕ → ℕ → Bool
lengths_good n more = both (frame_length_good n) (frame_length_good (n + more))

-- the fields of a Compact frame that expansion accepts, before 16
unfoldable pub compact_fields : Settings → spec.Outer → List ℕ → Outcome Fields
compact_fields s u f =
    check (outer_good s u) SettingsBad
    (check (lengths_good (length f) (spec.outer_bytes u)) FrameLengthBad
    (spec.compact_only (front_of s (address_in f)) f))

-- the outer destination, as a number
abbrev pub destination_of : Settings → Fields → ℕ
destination_of s p = pick (eqb (multicast_of p.header) 1) all_rbridges s.port

-- outer addresses and tag, and the frame with them
unfoldable pub outer_front : ℕ → spec.Outer → List ℕ
outer_front dst u = bytes_of address_bytes dst ++ (bytes_of address_bytes u.source ++ spec.outer_tag u)

unfoldable pub general_to : ℕ → spec.Outer → Fields → List ℕ
general_to dst u p = outer_front dst u ++ spec.general_tail p
