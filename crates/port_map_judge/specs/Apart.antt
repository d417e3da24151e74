-- Keys of labels: a label, times 4096, and the number of its pair; and when the keys of a list are of different labels.
-- Assumes nothing.
use Rattle.std.specs.Prelude.{ℕ, suc, ◌+◌, ◌*◌, ◌/◌, ◌≤◌, Bool, true, false, List, [], ◌∷◌, ◌≡◌, eqb}
use Rattle.numbers.specs.Tests.{any_of}
use Rattle.numbers.specs.Ranges.{last_fine}
use Rattle.flush_sort.specs.Sorting.{All}
use Rattle.port_map.specs.Maps.{good_once, fine_good}
use Rattle.port_map_judge.specs.Meaning.{labels_in}

-- so many keys at most
abbrev pub most_keys : ℕ
most_keys = 4096

-- the keys of labels, numbered from i on
unfoldable pub keys_of : ℕ → List ℕ → List ℕ
keys_of i [] = []
keys_of i (x ∷ xs) = (x * 4096 + i) ∷ keys_of (suc i) xs

-- two keys of one label are one key
abbrev pub Apart : List ℕ → Type 0
Apart l = (a b : ℕ) → any_of (eqb a) l ≡ true → any_of (eqb b) l ≡ true → a / 4096 ≡ b / 4096 → a ≡ b

-- whether two keys of one label are one key
pub record Parted (l : List ℕ) (r : Bool) : Type 0 where
  pub yes : r ≡ true → Apart l
  pub no : r ≡ false → Apart l → ⊥

-- a label is bad; or none is, and these are their keys
pub record Keyed (m k : List ℕ) (r : Bool) : Type 0 where
  pub bad : r ≡ false → false ≡ good_once fine_good (labels_in m)
  pub fine : r ≡ true → All (λ x. x ≤ last_fine) (labels_in m)
  pub keys : r ≡ true → k ≡ keys_of 0 (labels_in m)
