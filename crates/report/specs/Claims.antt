-- What holds of the morning report.
-- Assumes nothing.
use Prim.{Unit}
use Rattle.std.specs.Prelude.{ℕ, ◌+◌, ◌-◌, ◌*◌, ◌^◌, ◌<◌, true, List, [], ◌∷◌, ◌≡◌, eqb, leb, length}
use Rattle.numbers.specs.Tests.{pick, any_of}
use Rattle.table.specs.Record.{unpacked, slot_that}
use Rattle.table.specs.Slots.{slots_of, slot_at}
use Rattle.table.specs.Widening.{wide}
use Rattle.report.specs.Text.{hexadecimal, decimal}
use Rattle.report.specs.Report.{Line, line_of, Counts, counts_of, reported}

-- the counts of all lines; and all counts written
unfoldable pub sum_of : List Line → ℕ
sum_of [] = 0
sum_of (l ∷ ls) = l.learned + l.configured + sum_of ls

abbrev pub sum_all : Counts → ℕ
sum_all c = sum_of c.lines + c.free + c.spoilt

-- "All counts written add up to the number of slots"
abbrev pub ReportAddsUp : Type 0
ReportAddsUp = (t : List ℕ) → sum_all (counts_of t) ≡ slots_of t

-- each line is so
unfoldable pub EachLine : (Line → Type 0) → List Line → Type 0
EachLine P [] = Unit {0}
EachLine P (l ∷ ls) = P l × EachLine P ls

-- each nickname is below all after it
unfoldable pub Rising : List Line → Type 0
Rising [] = Unit {0}
Rising (l ∷ ls) = EachLine (λ m. l.nickname < m.nickname) ls × Rising ls

-- slot k holds a learned or configured record with the nickname x
abbrev pub HeldAt : ℕ → List ℕ → ℕ → Type 0
HeldAt x t k = slot_that (λ e. eqb e.nickname x) (unpacked (slot_at k t)) ≡ true

pub record RisingLines (t : List ℕ) : Type 0 where
  pub rising : Rising (counts_of t).lines
  -- some slot has the nickname of each line, and its counts are that nickname's
  pub held : EachLine (λ l. (k : ℕ) × ((k < slots_of t) × HeldAt l.nickname t k)) (counts_of t).lines
  pub counts : EachLine (λ l. l ≡ line_of l.nickname t) (counts_of t).lines
  -- and the nickname of each such slot has a line
  pub listed : (x k : ℕ) → k < slots_of t → HeldAt x t k → any_of (λ l. eqb l.nickname x) (counts_of t).lines ≡ true

abbrev pub ReportRising : Type 0
ReportRising = (t : List ℕ) → RisingLines t

-- document 01's P1
abbrev pub p1 : List ℕ
p1 = 0x40 ∷ 0x00 ∷ 0x01 ∷ 0x40 ∷ 0x40 ∷ 0x00 ∷ 0x00 ∷ 0x00 ∷ 0x00 ∷ 0x22 ∷ 0x46 ∷ 0x82 ∷ 0x81 ∷ 0x2C ∷ []

-- "P1 alone, widened to 15 bytes, gives three lines: "1234 1 0", "free 0", "spoilt 0". A bad length gives the single line "refused 2""
pub record ReportCase : Type 0 where
  pub p1_lines : reported (wide p1)
      ≡ 0x31 ∷ 0x32 ∷ 0x33 ∷ 0x34 ∷ 0x20 ∷ 0x31 ∷ 0x20 ∷ 0x30 ∷ 0x0A
      ∷ 0x66 ∷ 0x72 ∷ 0x65 ∷ 0x65 ∷ 0x20 ∷ 0x30 ∷ 0x0A
      ∷ 0x73 ∷ 0x70 ∷ 0x6F ∷ 0x69 ∷ 0x6C ∷ 0x74 ∷ 0x20 ∷ 0x30 ∷ 0x0A ∷ []
  pub bad_length : reported [] ≡ 0x72 ∷ 0x65 ∷ 0x66 ∷ 0x75 ∷ 0x73 ∷ 0x65 ∷ 0x64 ∷ 0x20 ∷ 0x32 ∷ 0x0A ∷ []

-- the digit that a sign stands for, and the number of a list of signs in a base
abbrev pub digit_of : ℕ → ℕ
digit_of s = pick (leb s 0x39) (s - 0x30) (s - 0x37)

unfoldable pub number_in : ℕ → List ℕ → ℕ
number_in base [] = 0
number_in base (s ∷ ss) = digit_of s * base ^ length ss + number_in base ss

-- digits read back as the number
pub record DigitsReadBack : Type 0 where
  pub decimals : (n : ℕ) → n < 10 ^ 4 → number_in 10 (decimal n) ≡ n
  pub hexadecimals : (n : ℕ) → n < 2 ^ 16 → number_in 16 (hexadecimal n) ≡ n

-- the length fits its 16 bits
abbrev pub ReportFits : Type 0
ReportFits = (t : List ℕ) → length (reported t) < 2 ^ 16
