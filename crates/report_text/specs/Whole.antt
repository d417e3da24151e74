-- The text of a whole report, by sorted tallies.
-- Assumes nothing.
use Rattle.std.specs.Prelude.{ℕ, ◌+◌, ◌*◌, List, ◌++◌}
use Rattle.table.specs.Slots.{most_slots}
use Rattle.report.specs.Text.{free_text, spoilt_text}
use Rattle.report.specs.Report.{nickname_end}
use Rattle.report_rows.specs.Rows.{lines_text}

unfoldable pub whole_text : List ℕ → ℕ → ℕ → List ℕ
whole_text v free spoilt = lines_text nickname_end v ++ (free_text free ++ spoilt_text spoilt)

-- no report is longer: more records of a nickname make no more bytes than as many lines
abbrev pub longest : ℕ
longest = 9 * most_slots + 16
