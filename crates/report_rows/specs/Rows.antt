-- The rows of tallies that are sorted: those of one nickname stand together, and the lines follow from them in rising order.
-- Assumes nothing.
use Rattle.std.specs.Prelude.{ℕ, zero, suc, ◌+◌, ◌-◌, ◌*◌, ◌/◌, ◌<◌, ◌≤◌, List, [], ◌++◌, ◌≡◌, eqb, length, take, drop, get_or}
use Rattle.numbers.specs.Tests.{pick}
use Rattle.flush_sort.specs.Sorting.{All}
use Rattle.report.specs.Text.{line_text}
use Rattle.report_tally.specs.Tallies.{tally_unit, tallied}
use Rattle.report_rows.specs.declared.Row.{Row}

-- the nickname of a tally stands above its kind and its count
abbrev pub row_unit : ℕ
row_unit = 2 * tally_unit

-- a nickname's line, if it has records
unfoldable pub row_text : ℕ → ℕ → ℕ → List ℕ
row_text x l c = pick (eqb (l + c) 0) [] (line_text x l c)

-- the lines of the nicknames below n, by tallies
unfoldable pub lines_text : ℕ → List ℕ → List ℕ
lines_text zero v = []
lines_text (suc x) v = lines_text x v ++ row_text x (tallied (x * 2) v) (tallied (x * 2 + 1) v)

-- the row of the tallies from place i on, where those of a nickname start
pub record RowAt (v : List ℕ) (i : ℕ) (r : Row) : Type 0 where
  pub nickname : r.nickname ≡ get_or v i 0 / row_unit
  pub learned : r.learned ≡ tallied (r.nickname * 2) (drop i v)
  pub configured : r.configured ≡ tallied (r.nickname * 2 + 1) (drop i v)
  pub further : i < r.next
  pub within : r.next ≤ length v
  pub last : get_or v (r.next - 1) 0 / row_unit ≡ r.nickname
  pub above : All (λ t. r.nickname + 1 ≤ t / row_unit) (drop r.next v)

-- where the lines of the nicknames below b are done: the tallies before place i are of these, the others are not
pub record DoneAt (b i : ℕ) (v : List ℕ) : Type 0 where
  pub done : All (λ t. t / row_unit < b) (take i v)
  pub left : All (λ t. b ≤ t / row_unit) (drop i v)

-- the row of tally t at place i, where that alone counts one learned record
abbrev pub single_row : ℕ → ℕ → Row
single_row t i = record { nickname = t / row_unit; learned = 1; configured = 0; next = i + 1 }
