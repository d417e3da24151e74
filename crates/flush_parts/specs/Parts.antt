-- Blocks and single numbers of a payload as intervals.
-- Assumes nothing.
use Rattle.std.specs.Prelude.{ℕ, ◌+◌, ◌*◌, ◌^◌, ◌≤◌, ◌<◌, Bool, true, false, List, eqb}
use Rattle.numbers.specs.Tests.{any_of}
use Rattle.numbers.specs.Bytes.{parts}
use Rattle.numbers.specs.Numberings.{number_of, start_of, end_of, in_block}
use Rattle.numbers.specs.declared.Numbering.{Numbering}
use Rattle.flush_members.specs.Sound.{Sound}

-- a numbering of at most 48 bits
pub record Narrow (w : Numbering) : Type 0 where
  pub sound : Sound w
  pub modulus_le : w.modulus ≤ 2 ^ 48
  pub low_le : w.low < 2 ^ 48
  pub high_le : w.high < 2 ^ 48

-- a part is a block, or a number alone
unfoldable pub span_for : Bool → Numbering → ℕ
span_for true w = 2 * w.size
span_for false w = w.size

unfoldable pub low_for : Bool → Numbering → List ℕ → ℕ
low_for true w b = start_of w b
low_for false w b = number_of w b

unfoldable pub past_for : Bool → Numbering → List ℕ → ℕ
past_for true w b = end_of w b + 1
past_for false w b = number_of w b + 1

-- x is of the part
unfoldable pub hit_for : Bool → Numbering → ℕ → List ℕ → Bool
hit_for true w x b = in_block w x b
hit_for false w x b = eqb (number_of w b) x

-- x is of some part of the value
unfoldable pub parts_hit : Bool → Numbering → List ℕ → ℕ → Bool
parts_hit block w v x = any_of (hit_for block w x) (parts (span_for block w) v)
