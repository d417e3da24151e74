-- A tally: a key and how often it was met, as one number. A list may have several tallies of a key; what they count is added.
-- Assumes nothing.
use Rattle.std.specs.Prelude.{ℕ, ◌+◌, ◌/◌, ◌%◌, ◌^◌, List, [], ◌∷◌, ◌≡◌, eqb}
use Rattle.numbers.specs.Tests.{pick}
use Rattle.report_keys.specs.Keys.{times_in}

-- the count stands below the key
abbrev pub tally_unit : ℕ
tally_unit = 2 ^ 13

-- how often a tally counts a key
abbrev pub counted_by : ℕ → ℕ → ℕ
counted_by k t = pick (eqb (t / tally_unit) k) (t % tally_unit) 0

-- how often a list of tallies counts it
unfoldable pub tallied : ℕ → List ℕ → ℕ
tallied k [] = 0
tallied k (t ∷ ts) = counted_by k t + tallied k ts

-- the tallies count every key as often as it stands among the keys
abbrev pub Tallies : List ℕ → List ℕ → Type 0
Tallies keys ts = (k : ℕ) → tallied k ts ≡ times_in k keys

-- both lists count every key as often
abbrev pub SameTallies : List ℕ → List ℕ → Type 0
SameTallies a b = (k : ℕ) → tallied k a ≡ tallied k b

-- the list b counts the key k once more than the list a, and every other as often
abbrev pub OneMore : ℕ → List ℕ → List ℕ → Type 0
OneMore k a b = (j : ℕ) → tallied j b ≡ tallied j a + pick (eqb k j) 1 0

-- so many places are noted
abbrev pub places_noted : ℕ
places_noted = 2048
