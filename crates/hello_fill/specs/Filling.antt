-- The bytes of the contents area that a sub-TLV, a TLV and a payload bring to a section; and two sections written at once.
-- Assumes nothing.
use Rattle.std.specs.Prelude.{ℕ, ◌+◌, ◌≤◌, Bool, true, List, ◌≡◌, eqb, length}
use Rattle.numbers.specs.Tests.{either}
use Rattle.numbers.specs.After.{OnArea, on_area}
use Rattle.frame_copy.specs.Areas.{pasted}
use Rattle.hello.specs.Tlvs.{Tlv}
use Rattle.hello.specs.Pieces.{parameters_type, smart_mac_type, nickname_type, trees_type}
use Rattle.hello.specs.Contents.{Item}
use Rattle.hello_count.specs.Sections.{section, holder_for, sub_numbers, tlv_numbers}
use Rattle.hello_words.specs.Words.{words}
use Rattle.hello_fill.specs.declared.Pens.{Pens}

unfoldable pub sub_words : ℕ → Tlv → List ℕ
sub_words k t = words (sub_numbers k t)

unfoldable pub tlv_words : ℕ → Tlv → List ℕ
tlv_words k t = words (tlv_numbers k t)

unfoldable pub section_words : ℕ → List Item → List ℕ
section_words k is = words (section k is)

-- bytes at each pen, which moves behind them
unfoldable pub put_two : List ℕ → List ℕ → OnArea Pens → OnArea Pens
put_two x y s =
    on_area (record { first = s.answer.first + length x; second = s.answer.second + length y })
    (pasted (pasted s.area s.answer.first x) s.answer.second y)

-- what a TLV brings to each
unfoldable pub filling : (Tlv → List ℕ) → (Tlv → List ℕ) → OnArea Pens → Tlv → OnArea Pens
filling f g s t = put_two (f t) (g t) s

-- the first ends before the second starts, and that before an area of n bytes ends
abbrev pub Room : List ℕ → List ℕ → Pens → ℕ → Type 0
Room x y p n = (p.first + length x ≤ p.second) × (p.second + length y ≤ n)

-- the types of sub-TLVs that are read
unfoldable pub is_read : ℕ → Bool
is_read k = either (eqb k parameters_type) (either (eqb k nickname_type) (either (eqb k trees_type) (eqb k smart_mac_type)))

-- two of them that one TLV holds
pub record Beside (k m : ℕ) : Type 0 where
  pub first : is_read k ≡ true
  pub second : is_read m ≡ true
  pub apart : k ≡ m → ⊥
  pub together : holder_for k ≡ holder_for m
