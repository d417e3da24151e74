-- Numbers added to a set of bits.
-- Assumes nothing.
use Rattle.std.specs.Prelude.{ℕ, ◌-◌, ◌/◌, ◌^◌, ◌≤◌, ◌<◌, Bool, true, List, ◌≡◌, eqb, length}
use Rattle.numbers.specs.Tests.{both, either}
use Rattle.numbers.specs.Numberings.{bit_at}

-- a byte with the bits from i to before j, the high bit first
unfoldable pub mask_of : ℕ → ℕ → ℕ
mask_of i j = 256 / 2 ^ i - 256 / 2 ^ j

-- the set s has become t: the numbers from first to before past are in it, all others as before
pub record Ranged (s t : List ℕ) (first past : ℕ) : Type 0 where
  pub long : length t ≡ length s
  pub below : (x : ℕ) → x < first → bit_at x t ≡ bit_at x s
  pub inside : (x : ℕ) → first ≤ x → x < past → bit_at x t ≡ true
  pub above : (x : ℕ) → past ≤ x → bit_at x t ≡ bit_at x s

-- the set s has become t: k is in it where b is true, and else as before; all others are as before
pub record Widened (s t : List ℕ) (k : ℕ) (b : Bool) : Type 0 where
  pub long : length t ≡ length s
  pub each : (j : ℕ) → bit_at j t ≡ either (bit_at j s) (both (eqb j k) b)
