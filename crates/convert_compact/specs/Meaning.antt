-- What the code's own steps mean, in the terms of convert/specs.
-- Assumes nothing.
use Rattle.std.specs.Prelude.{ℕ, ◌+◌, ◌-◌, List, length, Ok, Err}
use Rattle.numbers.specs.Result.{Outcome, check, settled}
use Rattle.numbers.specs.After.{OnArea, on_area}
use Rattle.numbers.specs.Bytes.{laid}
use Rattle.frame.specs.Front.{address_in}
use Rattle.frame.specs.Formats.{untagged_outer, frame_length_good}
use Rattle.frame.specs.Fields.{Fields}
use Rattle.frame_fields.specs.Meaning.{front_at}
use Rattle.frame_parse.specs.declared.Parts.{Parts}
use Rattle.convert.specs.Compaction.{general_only, written}
use Rattle.numbers.specs.declared.refusals.Refusal.TheVariants.{FrameLengthBad}

-- `general_fields` after the test of the settings: only the port address is used
unfoldable pub fields_at : ℕ → List ℕ → Outcome Fields
fields_at port f = check (frame_length_good (length f)) FrameLengthBad (general_only (front_at port (address_in f)) f)

-- the length of the Compact frame of a frame of n bytes with these parts
abbrev pub compact_length : ℕ → Parts → ℕ
compact_length n p = untagged_outer + p.label_length + p.header_length + (n - p.content_offset)

-- an area with a frame written at its start, or 16
unfoldable pub put_on : List ℕ → List ℕ → OnArea (Outcome ℕ)
put_on b area = settled (λ n. on_area (Err n) area) (written Ok b area)

-- an area with a frame written at its start, and the frame's length
abbrev pub filled : List ℕ → List ℕ → OnArea ℕ
filled b area = on_area (length b) (laid b area)
