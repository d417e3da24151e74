-- The bits of an address that a search compares first.
-- Assumes nothing.
use Rattle.std.specs.Prelude.{ℕ, ◌+◌, ◌*◌, ◌/◌, ◌%◌, ◌^◌}

-- bits 3 to 10
abbrev pub key_of : ℕ → ℕ
key_of mac = mac / 2 ^ 3 % 2 ^ 8

-- bits 3 to 18, in the order in which two bytes of a record are read as one number
abbrev pub round_key_of : ℕ → ℕ
round_key_of mac = mac / 2 ^ 3 % 2 ^ 8 * 2 ^ 8 + mac / 2 ^ 11 % 2 ^ 8
