-- A watch, and the time that passes on it (2026-06): "seconds left and the last clock reading".
-- Assumes nothing.
use Rattle.std.specs.Prelude.{ℕ, ◌+◌, ◌-◌, ◌%◌, ◌^◌, Bool, ltb}
use Rattle.numbers.specs.Tests.{pick}
use Rattle.watch.specs.declared.Watch.{Watch}

abbrev pub watch_of : ℕ → ℕ → Watch
watch_of left reading = record { left = left; reading = reading }

-- "The clock counts seconds in 32 bits and starts again at zero after its top value": the seconds from one reading to the next
unfoldable pub difference : ℕ → ℕ → ℕ
difference last clock = (clock + 2 ^ 32 - last) % 2 ^ 32

-- "a difference of 2^31 or more is taken as a clock gone back"
abbrev pub gone_back : ℕ
gone_back = 2 ^ 31

-- "with no time passed"
unfoldable pub passed : ℕ → ℕ → ℕ
passed last clock = pick (ltb (difference last clock) gone_back) (difference last clock) 0

-- "Each call brings the reading and first takes off the time passed, not below 0"; "the new reading kept"
unfoldable pub ticked : ℕ → Watch → Watch
ticked clock w = watch_of (w.left - passed w.reading clock) clock

-- "While seconds are left"
unfoldable pub stopped : Watch → Bool
stopped w = ltb 0 w.left
