-- Entries that a record can hold, and records that hold one.
-- Assumes nothing.
use Rattle.std.specs.Prelude.{ℕ, ◌^◌, ◌<◌, true, ◌≡◌}
use Rattle.table.specs.Record.{state_of, entry_of, entry_good, held, slot_of, label_number}
use Rattle.table.specs.declared.Entry.{Entry}

-- n is the number of the fields of a learned or a configured record
pub record IsHeld (n : ℕ) : Type 0 where
  pub good : entry_good (entry_of n) ≡ true
  pub slot : slot_of n ≡ held (state_of n) (entry_of n)

-- the parts of an entry fit their bits
pub record Fits (e : Entry) : Type 0 where
  pub label : label_number e.label < 2 ^ 24
  pub mac : e.mac < 2 ^ 48
  pub seconds : e.seconds < 2 ^ 13
