-- A label and an address that a search is for.
-- Assumes nothing.
use Rattle.std.specs.Prelude.{ℕ, ◌^◌, ◌<◌, ◌≤◌, Bool, true, ◌≡◌}
use Rattle.numbers.specs.Tests.{both}
use Rattle.numbers.specs.Ranges.{individual}
use Rattle.table.specs.Record.{label_from, label_good}
use Rattle.table.specs.declared.Label.{Label}

-- a label and an address that a good record can hold
unfoldable pub pair_good : Label → ℕ → Bool
pair_good l m = both (label_good l) (individual m)

-- their numbers, which fit their bits
pub record Pair (kind label mac : ℕ) : Type 0 where
  pub kind_small : kind ≤ 1
  pub label_small : label < 2 ^ 24
  pub mac_small : mac < 2 ^ 48
  pub good : pair_good (label_from kind label) mac ≡ true
