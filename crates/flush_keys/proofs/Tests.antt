-- Laws of tests of a list whose first element is taken away.
-- Assumes nothing.
use Prim.Native.Nat.{ℕ, ◌+◌, ◌<◌, ◌≤◌}
use mathlib.Core.Bool.{Bool, true, false}
use mathlib.Core.List.{List}
use mathlib.Core.Path.{◌≡◌, refl, sym, ◌∙◌}
use native.Mathlib.Decide.{ℕ_discrete}
use native.Mathlib.Numerals.{add-one}
use lib.Dec.{eqb}
use lib.ListN.{length, drop, get_or, drop_of_length-le}
use lib.Seq.{drop-cons}
use borrow.Author.Tests.{ne_eqb}
use Rattle.numbers.specs.Tests.{both, either, any_of}

pub any_none : (p : ℕ → Bool) (l : List ℕ) (i : ℕ) → length l ≤ i → any_of p (drop i l) ≡ false
unfolding any_of
any_none p l i h = rw (drop_of_length-le l {i = i} h)

pub any_next : (p : ℕ → Bool) (l : List ℕ) (i : ℕ) → i < length l → any_of p (drop i l) ≡ either (p (get_or l i 0)) (any_of p (drop (i + 1) l))
unfolding any_of
any_next p l i h = rw (drop-cons l i 0 h, add-one i)

pub eqb_swap : (a b : ℕ) → eqb a b ≡ eqb b a
eqb_swap a b = go (ℕ_discrete a b)
  where
    go : Dec (a ≡ b) → eqb a b ≡ eqb b a
    go (yes e) = rw e
    go (no d) = ne_eqb a b d ∙ sym (ne_eqb b a (λ e. d (sym e)))

-- a test of the one number k may be asked of k
pub asked_of : (j k : ℕ) (p : ℕ → Bool) → both (eqb j k) (p k) ≡ both (eqb j k) (p j)
unfolding both
asked_of j k p = go (ℕ_discrete j k)
  where
    go : Dec (j ≡ k) → both (eqb j k) (p k) ≡ both (eqb j k) (p j)
    go (yes e) = rw e
    go (no d) = rw (ne_eqb j k d)

-- one that is done beside what is done and what is left
pub one_done : (u e d t : Bool) → either (either u (both e t)) (both d t) ≡ either u (both (either e d) t)
unfolding both either
one_done true e d t = refl
one_done false true true true = refl
one_done false true true false = refl
one_done false true false true = refl
one_done false true false false = refl
one_done false false d t = refl
