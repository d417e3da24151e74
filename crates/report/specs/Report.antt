-- The morning report of a table (document 02, 2026-14).
-- Assumes nothing.
use Rattle.std.specs.Prelude.{ℕ, zero, suc, ◌+◌, ◌*◌, ◌^◌, Bool, List, [], ◌∷◌, ◌++◌, eqb, leb, length, Ok, Err}
use Rattle.numbers.specs.Tests.{pick}
use Rattle.numbers.specs.Result.{check, settled, Outcome}
use Rattle.numbers.specs.After.{OnArea, on_area}
use Rattle.numbers.specs.Bytes.{laid}
use Rattle.table.specs.Record.{unpacked, learned_that, configured_that}
use Rattle.table.specs.Slots.{table_good, slots_of, count_slots}
use Rattle.table.specs.Learning.{free_slot}
use Rattle.table.specs.Table.{spoilt_slot}
use Rattle.report.specs.Text.{line_text, free_text, spoilt_text, refused_text}
use Rattle.numbers.specs.Refusals.{number_of}
use Rattle.numbers.specs.declared.refusals.Refusal.TheVariants.{AreaShort}

-- a learned record with the nickname x; a configured one
unfoldable pub learned_with : ℕ → List ℕ → Bool
learned_with x r = learned_that (λ e. eqb e.nickname x) (unpacked r)

unfoldable pub configured_with : ℕ → List ℕ → Bool
configured_with x r = configured_that (λ e. eqb e.nickname x) (unpacked r)

-- how many slots of the table pass a test
abbrev pub count_of : (List ℕ → Bool) → List ℕ → ℕ
count_of p t = count_slots p 0 (slots_of t) t

-- a line: "nickname .., learned and configured counts"
pub record Line : Type 0 where
  pub nickname : ℕ
  pub learned : ℕ
  pub configured : ℕ

abbrev pub line_of : ℕ → List ℕ → Line
line_of x t = record { nickname = x; learned = count_of (learned_with x) t; configured = count_of (configured_with x) t }

-- "for each nickname with learned or configured records .. one line"
unfoldable pub line_if : Line → List Line
line_if l = pick (eqb (l.learned + l.configured) 0) [] (l ∷ [])

-- "in rising order": the lines of the nicknames below n
unfoldable pub lines_below : ℕ → List ℕ → List Line
lines_below zero t = []
lines_below (suc n) t = lines_below n t ++ line_if (line_of n t)

-- a nickname has 16 bits
abbrev pub nickname_end : ℕ
nickname_end = 2 ^ 16

unfoldable pub lines_of : List ℕ → List Line
lines_of t = lines_below nickname_end t

unfoldable pub text_of : List Line → List ℕ
text_of [] = []
text_of (l ∷ ls) = line_text l.nickname l.learned l.configured ++ text_of ls

-- what a report of a table writes: "Then free and spoilt"
pub record Counts : Type 0 where
  pub lines : List Line
  pub free : ℕ
  pub spoilt : ℕ

abbrev pub counts_of : List ℕ → Counts
counts_of t = record { lines = lines_of t; free = count_of free_slot t; spoilt = count_of spoilt_slot t }

unfoldable pub counts_text : Counts → List ℕ
counts_text c = text_of c.lines ++ (free_text c.free ++ spoilt_text c.spoilt)

-- the report of any bytes
unfoldable pub reported : List ℕ → List ℕ
reported t = pick (table_good t) (counts_text (counts_of t)) refused_text

-- a text written from the start of an area, or 16
unfoldable pub written : List ℕ → List ℕ → OnArea (Outcome ℕ)
written text area =
    settled (λ n. on_area (Err n) area)
    (check (leb (length text) (length area)) AreaShort
    (Ok (on_area (Ok (length text)) (laid text area))))

-- the call: 16 is its only refusal; at a bad length that line is written
unfoldable pub reported_to : List ℕ → List ℕ → OnArea (Outcome ℕ)
reported_to t area = written (reported t) area

-- 64 written, bits 8..23 the length
abbrev pub report_word : Outcome ℕ → ℕ
report_word (Err r) = number_of r
report_word (Ok n) = 64 + n * 2 ^ 8
