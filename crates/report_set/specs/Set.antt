-- A set of nicknames, a bit for each, the low bit of a word first; and the tallies that it stands for: one learned record of each.
-- Assumes nothing.
use Rattle.std.specs.Prelude.{ℕ, zero, suc, ◌+◌, ◌*◌, ◌/◌, ◌%◌, List, [], ◌∷◌, ◌++◌, ◌≡◌, eqb, length}
use Rattle.numbers.specs.Tests.{pick}
use Rattle.report_tally.specs.Tallies.{tally_unit, OneMore}

-- a word has so many bits, and so many words have a bit for each nickname of 16 bits
abbrev pub word_bits : ℕ
word_bits = 64

abbrev pub set_words : ℕ
set_words = 1024

-- the tally of one learned record of a nickname
abbrev pub one_tally : ℕ → ℕ
one_tally x = x * (2 * tally_unit) + 1

-- the tallies of the nicknames from x on by the k low bits of a word
unfoldable pub word_tallies : ℕ → ℕ → ℕ → List ℕ
word_tallies zero x w = []
word_tallies (suc k) x w = pick (eqb (w % 2) 0) [] (one_tally x ∷ []) ++ word_tallies k (suc x) (w / 2)

-- those of the nicknames from x on by words
unfoldable pub set_tallies : ℕ → List ℕ → List ℕ
set_tallies x [] = []
set_tallies x (w ∷ s) = word_tallies word_bits x w ++ set_tallies (x + word_bits) s

-- the set s has become t: it has one tally more, which counts the key k once
pub record Noted (k : ℕ) (s t : List ℕ) : Type 0 where
  pub longer : length (set_tallies 0 t) ≡ length (set_tallies 0 s) + 1
  pub counted : OneMore k (set_tallies 0 s) (set_tallies 0 t)
