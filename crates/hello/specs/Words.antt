-- The answer of both calls as the word of the C boundary.
-- Assumes nothing.
use Rattle.std.specs.Prelude.{ℕ, ◌+◌, ◌*◌, ◌%◌, ◌^◌, Ok, Err}
use Rattle.numbers.specs.Result.{Outcome}
use Rattle.numbers.specs.Refusals.{number_of}

-- 64 written, bits 8..63 the length, of which no area's is longer
abbrev pub hello_word : Outcome ℕ → ℕ
hello_word (Err r) = number_of r
hello_word (Ok length) = 64 + length % 2 ^ 56 * 2 ^ 8
