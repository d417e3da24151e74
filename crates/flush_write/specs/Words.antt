-- The answer of writing a flush as the word of the C boundary.
-- Assumes nothing.
use Rattle.std.specs.Prelude.{ℕ, ◌+◌, ◌*◌, ◌^◌, Ok, Err}
use Rattle.numbers.specs.Result.{Outcome}
use Rattle.numbers.specs.Refusals.{number_of}

-- 64 written, bits 8..23 the length
abbrev pub write_word : Outcome ℕ → ℕ
write_word (Err r) = number_of r
write_word (Ok length) = 64 + length * 2 ^ 8
