-- What the code's own steps mean, in the terms of ingress/specs.
-- Assumes nothing.
use Rattle.std.specs.Prelude.{ℕ, ◌+◌, ◌^◌, ◌≤◌, ◌<◌, List, ◌++◌, ◌≡◌, length, take, drop, Ok, Err}
use Rattle.numbers.specs.Result.{Outcome, check, settled}
use Rattle.numbers.specs.After.{OnArea, on_area}
use Rattle.numbers.specs.Bytes.{bytes_of}
use Rattle.frame.specs.Front.{address_bytes}
use Rattle.frame.specs.Labels.{trill_type}
use Rattle.frame.specs.Formats.{tagged_addresses, longest_frame, frame_length_good}
use Rattle.convert.specs.Compaction.{written}
use Rattle.port_map.specs.declared.PortVlan.{PortVlan}
use Rattle.ingress.specs.Ingress.{Native, native_parsed, longer_by}
use Rattle.ingress.specs.declared.Given.{Given}
use Rattle.numbers.specs.declared.refusals.Refusal.TheVariants.{FrameLengthBad}
use Rattle.ingress_call.specs.declared.Tagged.{Tagged}

-- the native frame with this VLAN and priority in its tag
abbrev pub native_with : List ℕ → PortVlan → ℕ → Native
native_with f v q = record { dst = take address_bytes f; src = take address_bytes (drop address_bytes f); priority = q; vlan = v; content = drop tagged_addresses f }

abbrev pub judged_as : List ℕ → Outcome Tagged → Outcome Native
judged_as f (Err n) = Err n
judged_as f (Ok t) = Ok (native_with f t.vlan t.priority)

-- what holds of a frame that was judged a tagged one: there is a tag, the result is no longer than a frame, and a priority has 3 bits
abbrev pub JudgedFits : List ℕ → Outcome Tagged → Type 0
JudgedFits f (Err n) = Unit {0}
JudgedFits f (Ok t) = (tagged_addresses ≤ length f) × ((length f + longer_by ≤ longest_frame) × (t.priority < 2 ^ 3))

pub record Judges (f : List ℕ) (x : Outcome Native) (r : Outcome Tagged) : Type 0 where
  pub native : judged_as f r ≡ x
  pub fits : JudgedFits f r

-- 3, 6 and 10
unfoldable pub native_judged : List ℕ → Outcome Native
native_judged f =
    check (frame_length_good (length f)) FrameLengthBad
    (check (frame_length_good (length f + longer_by)) FrameLengthBad
    (native_parsed f))

-- outer addresses and 22F3
unfoldable pub outer_of : Given → List ℕ
outer_of u = bytes_of address_bytes u.destination ++ (bytes_of address_bytes u.source ++ trill_type)

-- bytes written to an area, or 16
abbrev pub put_on : List ℕ → List ℕ → OnArea (Outcome ℕ)
put_on b area = settled (λ n. on_area (Err n) area) (written Ok b area)
