-- Numbers as the bytes of the contents area.
-- Assumes nothing.
use Rattle.std.specs.Prelude.{ℕ, ◌/◌, ◌%◌, ◌^◌}
use mathlib.Core.List.{List, [], ◌∷◌, flat_map}
use Rattle.numbers.specs.Bytes.{num, bytes_of}
use Rattle.hello.specs.Reading.{nickname_of, label_in}
use Rattle.hello.specs.Area.{nickname_numbers}

-- 8 bytes each
unfoldable pub words : List ℕ → List ℕ
words ns = flat_map (bytes_of 8) ns

-- the three numbers of a nickname's record; one number
unfoldable pub record_words : List ℕ → List ℕ
record_words b = words (nickname_numbers (nickname_of b))

unfoldable pub number_word : List ℕ → List ℕ
number_word b = bytes_of 8 (num b)

-- F, M and the label of a Smart-MAC
unfoldable pub label_words : ℕ → List ℕ
label_words x = words ((x / 2 ^ 31 % 2) ∷ ((x / 2 ^ 30 % 2) ∷ (label_in x ∷ [])))
