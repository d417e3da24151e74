-- A port's settings and their ranges (document 01, "Settings"; refusal 1).
-- Assumes nothing.
use Rattle.std.specs.Prelude.{ℕ, Bool, not, leb, eqb}
use Rattle.numbers.specs.Tests.{pick, both, either, between}
use Rattle.numbers.specs.Ranges.{individual, nickname_good}
use Rattle.frame.specs.declared.Settings.{Settings}

-- "Port address and own inner address (individual addresses, different)"
unfoldable pub addresses_good : Settings → Bool
addresses_good s = both (individual s.port) (both (individual s.inner) (not (eqb s.port s.inner)))

-- "learning seconds 10 to 8191, or 0 for the default"
abbrev pub least_seconds : ℕ
least_seconds = 10

abbrev pub most_seconds : ℕ
most_seconds = 8191

unfoldable pub seconds_good : ℕ → Bool
seconds_good n = either (eqb n 0) (between least_seconds most_seconds n)

-- "own nickname 0001 to FFBF, Compact on or off, learning confidence 0 to 255"
abbrev pub most_confidence : ℕ
most_confidence = 255

unfoldable pub numbers_good : Settings → Bool
numbers_good s =
    both (nickname_good s.nickname)
    (both (leb s.compact 1)
    (both (leb s.confidence most_confidence)
    (seconds_good s.seconds)))

-- "A setting says which of the two R bits it is, or none" (2026-12): 0 none, 1 the first, 2 the second
abbrev pub first_bit : ℕ
first_bit = 1

abbrev pub second_bit : ℕ
second_bit = 2

abbrev pub most_multihomed : ℕ
most_multihomed = second_bit

-- Smart Endnodes on (1) or off (0) (2026-13)
abbrev pub most_smart : ℕ
most_smart = 1

unfoldable pub later_good : Settings → Bool
later_good s = both (leb s.multihomed most_multihomed) (leb s.smart most_smart)

unfoldable pub settings_good : Settings → Bool
settings_good s = both (addresses_good s) (both (numbers_good s) (later_good s))

-- Compact is on
abbrev pub compact_on : Settings → Bool
compact_on s = eqb s.compact 1

-- Smart Endnodes are on
abbrev pub smart_on : Settings → Bool
smart_on s = eqb s.smart 1

-- the seconds that a learned record gets, `life` being the default
abbrev pub life_of : ℕ → Settings → ℕ
life_of life s = pick (eqb s.seconds 0) life s.seconds

-- "Learning seconds 0 shall mean 1,200 instead of 300" (2026-10)
abbrev pub default_life : ℕ
default_life = 1200
