-- The types that have a section in a contents area, and the count of an entry.
-- Assumes nothing.
use Rattle.std.specs.Prelude.{ℕ, ◌+◌, Bool, List, eqb, get_or}
use Rattle.numbers.specs.Tests.{pick, either}
use Rattle.hello.specs.Pieces.{parameters_type, smart_mac_type, nickname_type, trees_type}

unfoldable pub has_section : ℕ → Bool
has_section k = either (eqb k parameters_type) (either (eqb k nickname_type) (either (eqb k trees_type) (eqb k smart_mac_type)))

-- how many elements the list of the entry at the number i has; Smart-Parameters have none
unfoldable pub count_at : ℕ → List ℕ → ℕ → ℕ
count_at k ns i = pick (eqb k parameters_type) 0 (pick (eqb k nickname_type) (get_or ns i 0) (pick (eqb k trees_type) (get_or ns (i + 1) 0) (get_or ns (i + 3) 0)))
