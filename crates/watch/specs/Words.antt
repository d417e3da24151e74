-- The answer of a reset, a tick and an event as the word of the C boundary; that of watched sending is sending's.
-- Assumes nothing.
use Rattle.std.specs.Prelude.{ℕ, ◌+◌, ◌*◌, ◌^◌, Ok, Err}
use Rattle.numbers.specs.Result.{Outcome}
use Rattle.numbers.specs.Refusals.{number_of}

-- 64, bits 8..39 the seconds left
abbrev pub watch_word : Outcome ℕ → ℕ
watch_word (Err r) = number_of r
watch_word (Ok seconds) = 64 + seconds * 2 ^ 8
