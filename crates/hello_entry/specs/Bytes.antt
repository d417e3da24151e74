-- The numbers of an entry at their places, and as bytes.
-- Assumes nothing.
use Rattle.std.specs.Prelude.{ℕ, zero, suc, ◌+◌, List, [], ◌++◌, get_or}
use Rattle.numbers.specs.Bytes.{bytes_of}
use Rattle.frame_copy.specs.Areas.{pasted}
use Rattle.hello.specs.Contents.{Parameters, Nickname}
use Rattle.hello.specs.Writing.{nickname_bytes}
use Rattle.hello_area.specs.Entries.{Label}

unfoldable pub parameters_at : List ℕ → ℕ → Parameters
parameters_at ns i = record { holding = get_or ns i 0; flags = get_or ns (i + 1) 0 }

unfoldable pub nickname_at : List ℕ → ℕ → Nickname
nickname_at ns i = record { priority = get_or ns i 0; root = get_or ns (i + 1) 0; nickname = get_or ns (i + 2) 0 }

unfoldable pub label_at : List ℕ → ℕ → Label
label_at ns i = record { fine = get_or ns i 0; multihomed = get_or ns (i + 1) 0; number = get_or ns (i + 2) 0 }

-- the record of a nickname; a number of b bytes
unfoldable pub record_at : List ℕ → ℕ → List ℕ
record_at ns i = nickname_bytes (nickname_at ns i)

unfoldable pub number_at : ℕ → List ℕ → ℕ → List ℕ
number_at b ns i = bytes_of b (get_or ns i 0)

-- an area with a MAC put into it as eight bytes, and with four of them, each over what the one before has too many
abbrev pub with_mac : List ℕ → ℕ → List ℕ → ℕ → List ℕ
with_mac ns i o at = pasted o at (number_at 6 ns i ++ bytes_of 2 0)

unfoldable pub four_macs : List ℕ → ℕ → List ℕ → ℕ → List ℕ
four_macs ns i o at = with_mac ns (i + 3) (with_mac ns (i + 2) (with_mac ns (i + 1) (with_mac ns i o at) (at + 6)) (at + 12)) (at + 18)

-- m elements one behind the other, the first at the place i, each of w numbers
unfoldable pub run : (ℕ → List ℕ) → ℕ → ℕ → ℕ → List ℕ
run f w i zero = []
run f w i (suc m) = f i ++ run f w (i + w) m
