-- Laws of the fields: two bytes at an offset, and a slice from an offset on.
-- Assumes nothing.
use Prim.Native.Nat.{ℕ, ◌+◌, ◌-◌}
use mathlib.Core.Bool.{◌&&◌}
use mathlib.Core.List.{List}
use mathlib.Core.Path.{◌≡◌}
use native.Mathlib.Nat.{add-zero}
use native.Mathlib.Omega.{arith}
use lib.Dec.{eqb}
use lib.ListN.{length, take, drop, get_or, length-drop}
use lib.Seq.{take_all, get_or-drop}
use Rattle.numbers.specs.Tests.{both}
use Rattle.numbers.specs.Bytes.{starts_with}

pub starts_at : (l : List ℕ) (k a b : ℕ) → eqb (get_or l k 0) a && eqb (get_or l (k + 1) 0) b ≡ starts_with a b (drop k l)
unfolding starts_with both
starts_at l k a b = rw (get_or-drop k l 0 0, get_or-drop k l 1 0, add-zero k)

-- the part of a slice from an offset to its end
to_the_end : (l : List ℕ) (k : ℕ) → take (length l - k) (drop k l) ≡ drop k l
to_the_end l k = take_all (length l - k) (drop k l) (simp length-drop (omega arith))

pub after_is : (l : List ℕ) (k : ℕ) → (take (length l - k) (drop k l) ≡ drop k l) × (length (take (length l - k) (drop k l)) ≡ length l - k)
after_is l k = (to_the_end l k, rw (to_the_end l k) (length-drop k l))
