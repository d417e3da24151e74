-- Numberings that the code reads: their numbers take 2, 3 or 6 bytes.
-- Assumes nothing.
use Rattle.std.specs.Prelude.{ℕ, ◌<◌, ◌≤◌, ◌≡◌}
use Rattle.numbers.specs.declared.Numbering.{Numbering}

pub record Width (size : ℕ) : Type 0 where
  pub least : 2 ≤ size
  pub most : size ≤ 6
  pub six : (size ≡ 2 → ⊥) → (size ≡ 3 → ⊥) → size ≡ 6

pub record Sound (w : Numbering) : Type 0 where
  pub width : Width w.size
  pub modulus_some : 0 < w.modulus

-- a numbering from its four numbers
abbrev pub numbering : ℕ → ℕ → ℕ → ℕ → Numbering
numbering size modulus low high = record { size = size; modulus = modulus; low = low; high = high }
