-- What a frame's label asks of a map; the tag and the length of the native frame.
-- Assumes nothing.
use Rattle.std.specs.Prelude.{ℕ, ◌+◌, ◌-◌, Bool, true, false, List, [], ◌++◌, ◌≡◌, Ok, Err}
use Rattle.numbers.specs.Bytes.{bytes_of}
use Rattle.numbers.specs.Result.{Outcome}
use Rattle.frame.specs.Front.{addresses_bytes}
use Rattle.frame.specs.Fields.{Fields, native_bytes}
use Rattle.frame.specs.Header.{word_at}
use Rattle.frame.specs.Labels.{tag_bytes, tag_type, is_tag}
use Rattle.frame_parse.specs.declared.Parts.{Parts}
use Rattle.receive.specs.Delivering.{fine_in, tagged_bytes}
use Rattle.receive_deliver.specs.declared.Tag.{Tag}
use Rattle.receive_deliver.specs.declared.Tag.TheVariants as tag
use Rattle.receive_deliver.specs.declared.Wanted.{Wanted}
use Rattle.receive_deliver.specs.declared.Wanted.TheVariants as wanted
use Rattle.numbers.specs.declared.refusals.Refusal.TheVariants.{NoPair}

-- what a frame's label asks of a map: nothing, or the VLAN of its fine-grained label, w being the label's second part
abbrev pub Asks : Wanted → Fields → Type 0
Asks wanted.Nothing p = is_tag p.label ≡ true
Asks (wanted.Vlan l w) p = (is_tag p.label ≡ false) × ((l ≡ fine_in p.label) × (w ≡ word_at 6 p.label))

-- ---- the tag of a native frame

abbrev pub tag_of : Tag → List ℕ
tag_of tag.Untagged = []
tag_of (tag.Number w) = tag_type ++ bytes_of 2 w
tag_of tag.Missing = []

abbrev pub tag_length : Tag → ℕ
tag_length tag.Untagged = 0
tag_length (tag.Number w) = tag_bytes
tag_length tag.Missing = 0

abbrev pub is_missing : Tag → Bool
is_missing tag.Untagged = false
is_missing (tag.Number w) = false
is_missing tag.Missing = true

-- the native frame with its tag, or 22
abbrev pub native_as : Tag → Fields → Outcome (List ℕ)
native_as tag.Untagged p = Ok (native_bytes p)
native_as (tag.Number w) p = Ok (tagged_bytes p w)
native_as tag.Missing p = Err NoPair

unfoldable pub written_with : Tag → Fields → List ℕ
written_with t p = p.dst ++ (p.src ++ (tag_of t ++ p.content))

-- the length of the native frame of a frame of n bytes with these parts
abbrev pub native_length : Tag → ℕ → Parts → ℕ
native_length t n p = addresses_bytes + tag_length t + (n - p.content_offset)
