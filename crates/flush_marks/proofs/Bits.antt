-- Laws of sets of bits that are all 0.
-- Assumes nothing.
use Prim.Native.Nat.{ℕ, zero, suc, ◌/◌}
use mathlib.Core.Bool.{Bool, true, false}
use mathlib.Core.Path.{◌≡◌, refl}
use native.Mathlib.Nat.{zero-div}
use lib.ListN.{get_or, replicate, length-replicate}
use Rattle.numbers.specs.Tests.{both}
use Rattle.numbers.specs.Numberings.{bit_of, bit_at}
use Rattle.flush_marks.specs.Marks.{mark_bytes, NoMarks}

zeros : (n i : ℕ) → ◌≡◌ {A = ℕ} (get_or (replicate n 0) i 0) 0
zeros zero i = refl
zeros (suc n) zero = refl
zeros (suc n) (suc i) = zeros n i

pub zeros_none : (n x : ℕ) → bit_at x (replicate n 0) ≡ false
unfolding bit_at bit_of
zeros_none n x = rw (zeros n (x / 8), zero-div)

pub zeros_unmarked : NoMarks (replicate mark_bytes 0)
zeros_unmarked = record { long = length-replicate {A = ℕ} mark_bytes 0; none = zeros_none mark_bytes }

-- ---- a test that always passes

pub both-all : (a : Bool) → both a true ≡ a
unfolding both
both-all true = refl
both-all false = refl
