-- What reading a frame gives, in the terms of frame/specs, and what holds of the parts that it gives.
-- Assumes nothing.
use Rattle.std.specs.Prelude.{ℕ, ◌+◌, ◌≤◌, List, ◌≡◌, length, take, drop, Ok, Err}
use Rattle.numbers.specs.Tests.{pick}
use Rattle.numbers.specs.Result.{Outcome}
use Rattle.frame.specs.Front.{address_bytes, addresses_bytes}
use Rattle.frame.specs.Header.{fixed_bytes}
use Rattle.frame.specs.Labels.{tag_bytes, fine_bytes, is_tag}
use Rattle.frame.specs.Fields.{Fields, least_content}
use Rattle.frame.specs.Formats.{longest_frame}
use Rattle.frame_parse.specs.declared.Parts.{Parts}

-- the fields of a frame at the offsets of its parts
abbrev pub fields_in : List ℕ → Parts → Fields
fields_in f p = record {
  header = take p.header_length (drop p.header_offset f);
  dst = take address_bytes (drop p.dst_offset f);
  src = take address_bytes (drop (p.dst_offset + address_bytes) f);
  label = take p.label_length (drop (p.dst_offset + addresses_bytes) f);
  content = drop p.content_offset f;
}

-- p are the parts of a frame that was read
pub record PartsOf (f : List ℕ) (p : Parts) : Type 0 where
  pub longest : length f ≤ longest_frame
  -- they lie within it
  pub label-in : p.dst_offset + addresses_bytes + p.label_length ≤ length f
  pub header_in : p.header_offset + p.header_length ≤ length f
  pub content_in : p.content_offset + least_content ≤ length f
  -- the header's six bytes are there; a label is a tag or a fine-grained one
  pub header : fixed_bytes ≤ p.header_length
  pub label : tag_bytes ≤ p.label_length
  pub label_kind : p.label_length ≡ pick (is_tag (drop (p.dst_offset + addresses_bytes) f)) tag_bytes fine_bytes

abbrev pub parsed_as : List ℕ → Outcome Parts → Outcome Fields
parsed_as f (Err n) = Err n
parsed_as f (Ok p) = Ok (fields_in f p)

abbrev pub parsed_parts : List ℕ → Outcome Parts → Type 0
parsed_parts f (Err n) = Unit {0}
parsed_parts f (Ok p) = PartsOf f p

-- r is what is read of the frame f: the fields x or their refusal, and what holds of its parts
pub record Reads (f : List ℕ) (x : Outcome Fields) (r : Outcome Parts) : Type 0 where
  pub fields : parsed_as f r ≡ x
  pub parts : parsed_parts f r
