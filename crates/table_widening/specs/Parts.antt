-- The first bytes of a record, which are copied as one number.
-- Assumes nothing.
use Rattle.std.specs.Prelude.{ℕ}

abbrev pub head_bytes : ℕ
head_bytes = 8
