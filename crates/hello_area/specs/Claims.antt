-- Writing by entries is writing.
-- Assumes nothing.
use Rattle.std.specs.Prelude.{ℕ, List, ◌≡◌}
use Rattle.hello.specs.Calls.{area_written}
use Rattle.hello_area.specs.Entries.{entries_written}

-- an area that is taken entry by entry, each with its test and as its sub-TLV, is written as its contents are, refusals too
abbrev pub EntriesWritten : Type 0
EntriesWritten = (area : List ℕ) → area_written area ≡ entries_written area
