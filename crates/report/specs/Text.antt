-- The report as text: digits, one line of it (document 02, 2026-14).
-- Assumes nothing.
use Rattle.std.specs.Prelude.{ℕ, zero, suc, ◌+◌, ◌/◌, ◌%◌, ◌^◌, List, [], ◌∷◌, ◌++◌, leb}
use Rattle.numbers.specs.Tests.{pick}
use Rattle.numbers.specs.Bytes.{bytes_of}
use Rattle.numbers.specs.Refusals.{number_of}
use Rattle.numbers.specs.declared.refusals.Refusal.TheVariants.{TableLengthBad}

-- the space and the line feed of ASCII
abbrev pub space : ℕ
space = 0x20

abbrev pub line_feed : ℕ
line_feed = 0x0A

-- the sign of a digit: "0" to "9", then "A" to "F": "capital"
unfoldable pub sign : ℕ → ℕ
sign d = pick (leb d 9) (0x30 + d) (0x37 + d)

-- the k low digits of a number in a base, the high one first
unfoldable pub digits_of : ℕ → ℕ → ℕ → List ℕ
digits_of base zero n = []
digits_of base (suc k) n = sign (n / base ^ k % base) ∷ digits_of base k n

-- "nickname in four capital hexadecimal digits"
unfoldable pub hexadecimal : ℕ → List ℕ
hexadecimal n = digits_of 16 4 n

-- how many digits a count has: no count is over 4,096
unfoldable pub width_of : ℕ → ℕ
width_of n = pick (leb n 9) 1 (pick (leb n 99) 2 (pick (leb n 999) 3 4))

-- "counts in decimal"
unfoldable pub decimal : ℕ → List ℕ
decimal n = digits_of 10 (width_of n) n

-- a nickname's line: the nickname, the learned count, the configured count
unfoldable pub line_text : ℕ → ℕ → ℕ → List ℕ
line_text x l c = hexadecimal x ++ (space ∷ decimal l ++ (space ∷ decimal c ++ line_feed ∷ []))

-- "free N" and "spoilt N"
unfoldable pub free_text : ℕ → List ℕ
free_text n = bytes_of 5 0x66_72_65_65_20 ++ (decimal n ++ line_feed ∷ [])

unfoldable pub spoilt_text : ℕ → List ℕ
spoilt_text n = bytes_of 7 0x73_70_6F_69_6C_74_20 ++ (decimal n ++ line_feed ∷ [])

-- "A bad length gives the single line "refused 2""
unfoldable pub refused_text : List ℕ
refused_text = bytes_of 8 0x72_65_66_75_73_65_64_20 ++ (decimal (number_of TableLengthBad) ++ line_feed ∷ [])
