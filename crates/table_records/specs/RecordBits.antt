-- A record's number in the two parts that the code holds.
-- Assumes nothing.
use Rattle.std.specs.Prelude.{ℕ, ◌+◌, ◌*◌, ◌^◌, ◌<◌, ◌≡◌}
use Rattle.table_records.specs.declared.RecordBits.{RecordBits}

abbrev pub number_of : RecordBits → ℕ
number_of b = b.high * 2 ^ 48 + b.low

-- the parts are of 64 and of 48 bits
pub record BitsFit (b : RecordBits) : Type 0 where
  pub high_fits : b.high < 2 ^ 64
  pub low_fits : b.low < 2 ^ 48

-- b has the record's number n
pub record HasNumber (n : ℕ) (b : RecordBits) : Type 0 where
  pub number : n ≡ number_of b
  pub fits : BitsFit b
