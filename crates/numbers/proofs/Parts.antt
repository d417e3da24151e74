-- Laws of bytes cut into parts of one length.
-- Assumes nothing.
use Prim.Native.Nat.{ℕ, zero, suc, ◌-◌, ◌*◌, ◌<◌, ◌≤◌}
use mathlib.Core.List.{List, [], ◌∷◌, ◌++◌, map, flat_map}
use mathlib.Core.Path.{◌≡◌, refl, sym, ap, ◌∙◌}
use native.Mathlib.Omega.{arith}
use lib.ListN.{length, take, drop, length-drop, length-append}
use lib.Seq.{take_at, drop_at}
use borrow.Author.Tests.{le-leb, lt-leb}
use Rattle.numbers.specs.Tests.{pick}
use Rattle.numbers.specs.Bytes.{parts_from, parts}

module _ (k : ℕ) (some : 0 < k) where
  parts_none : (n : ℕ) (l : List ℕ) → length l < k → parts_from k n l ≡ []
  unfolding parts_from pick
  parts_none zero l h = refl
  parts_none (suc n) l h = rw (lt-leb k (length l) h)

  -- any number that is large enough will do
  parts_enough : (n m : ℕ) (l : List ℕ) → length l ≤ n → length l ≤ m → parts_from k n l ≡ parts_from k m l
  unfolding parts_from
  parts_enough zero m l h g = sym (parts_none m l (omega arith))
  parts_enough (suc n) zero l h g = parts_none (suc n) l (omega arith)
  parts_enough (suc n) (suc m) l h g =
      let d : length (drop k l) ≡ length l - k = length-drop k l in
      rw (parts_enough n m (drop k l) (omega arith) (omega arith))

  pub parts_end : (l : List ℕ) → length l < k → parts k l ≡ []
  unfolding parts
  parts_end l h = parts_none (length l) l h

  first_part : (l : List ℕ) (n : ℕ) → k ≤ length l → parts_from k (suc n) l ≡ take k l ∷ parts_from k n (drop k l)
  unfolding parts_from pick
  first_part l n h = rw (le-leb k (length l) h)

  pub parts_more : (l : List ℕ) → k ≤ length l → parts k l ≡ take k l ∷ parts k (drop k l)
  unfolding parts
  parts_more l h =
      let d : length (drop k l) ≡ length l - k = length-drop k l in
      parts_enough (length l) (suc (length l)) l (omega arith) (omega arith)
      ∙ first_part l (length l) h
      ∙ ap (λ (r : List (List ℕ)). take k l ∷ r) (parts_enough (length l) (length (drop k l)) (drop k l) (omega arith) (omega arith))

-- parts put together and cut again
module _ (k : ℕ) (some : 0 < k) {A : Type 0} (f : A → List ℕ) (long : (x : A) → length (f x) ≡ k) where
  pub parts-joined : (xs : List A) → parts k (flat_map f xs) ≡ map f xs
  unfolding flat_map
  parts-joined [] = parts_end k some [] some
  parts-joined (x ∷ xs) =
      let n = length-append (f x) (flat_map f xs) in
      let m = long x in
      parts_more k some (f x ++ flat_map f xs) (omega arith)
      ∙ rw (take_at (f x) (flat_map f xs) k (long x), drop_at (f x) (flat_map f xs) k (long x), parts-joined xs)

-- and how long they are
pub length-joined : {A : Type 0} (k : ℕ) (f : A → List ℕ) → ((x : A) → length (f x) ≡ k) → (xs : List A) → length (flat_map f xs) ≡ k * length xs
unfolding flat_map
length-joined k f long [] = omega arith
length-joined k f long (x ∷ xs) =
    let n = length-append (f x) (flat_map f xs) in
    let m = long x in
    let i = length-joined k f long xs in
    omega arith
