-- Laws of tallies: a list made longer, a tally counted on.
-- Assumes nothing.
use Prim.Native.Nat.{ℕ, zero, suc, ◌+◌, ◌*◌, ◌/◌, ◌%◌, ◌<◌, ◌≤◌}
use mathlib.Core.Bool.{Bool, true, false}
use mathlib.Core.List.{List, [], ◌∷◌, ◌++◌}
use mathlib.Core.Path.{◌≡◌, refl}
use native.Mathlib.Numerals.{add-one}
use native.Mathlib.Omega.{arith}
use lib.Dec.{eqb}
use lib.ListN.{length, take, get_or, set}
use lib.Seq.{take-suc-set}
use borrow.Author.Tests.{eq-eqb}
use Rattle.numbers.specs.Tests.{pick}
use Rattle.report_tally.specs.Tallies.{tally_unit, counted_by, tallied, OneMore}

pub tallied-append : (k : ℕ) (a b : List ℕ) → tallied k (a ++ b) ≡ tallied k a + tallied k b
unfolding tallied
tallied-append k [] b = omega arith
tallied-append k (t ∷ a) b = let r = tallied-append k a b in omega arith

pub tallied_last : (k t : ℕ) → tallied k (t ∷ []) ≡ counted_by k t
unfolding tallied
tallied_last k t = omega arith

-- a tally in place of another: what this one counted is lost, what that one counts is won
pub tallied-set : (k v : ℕ) (l : List ℕ) (n e : ℕ) → e < n → e < length l → tallied k (take n (set l e v)) + counted_by k (get_or l e 0) ≡ tallied k (take n l) + counted_by k v
unfolding tallied
tallied-set k v [] n e h g = absurd (omega arith)
tallied-set k v (t ∷ l) zero e h g = absurd (omega arith)
tallied-set k v (t ∷ l) (suc n) zero h g = omega arith
tallied-set k v (t ∷ l) (suc n) (suc e) h g = let r = tallied-set k v l n e (omega arith) (omega arith) in omega arith

-- no tally counts a key more often than the list does
pub tallied_at : (k : ℕ) (l : List ℕ) (n e : ℕ) → e < n → e < length l → counted_by k (get_or l e 0) ≤ tallied k (take n l)
unfolding tallied
tallied_at k [] n e h g = absurd (omega arith)
tallied_at k (t ∷ l) zero e h g = absurd (omega arith)
tallied_at k (t ∷ l) (suc n) zero h g = omega arith
tallied_at k (t ∷ l) (suc n) (suc e) h g = let r = tallied_at k l n e (omega arith) (omega arith) in omega arith

-- ---- one key more

one_more : (j k t : ℕ) → t / tally_unit ≡ k → t % tally_unit + 1 < tally_unit → counted_by j (t + 1) ≡ counted_by j t + pick (eqb k j) 1 0
unfolding pick
one_more j k t e h =
    let q : (t + 1) / tally_unit ≡ k = omega arith in
    let s : (t + 1) % tally_unit ≡ t % tally_unit + 1 = omega arith in
    rw (q, e, s) (go (eqb k j))
  where
    go : (b : Bool) → pick b (t % tally_unit + 1) 0 ≡ pick b (t % tally_unit) 0 + pick b 1 0
    go true = refl
    go false = refl

pub a_new : (j k : ℕ) → counted_by j (k * tally_unit + 1) ≡ pick (eqb k j) 1 0
a_new j k =
    let q : (k * tally_unit + 1) / tally_unit ≡ k = omega arith in
    let s : (k * tally_unit + 1) % tally_unit ≡ 1 = omega arith in
    rw (q, s)

module _ (l : List ℕ) (n k : ℕ) where
  -- a tally of the key that is not full
  pub has_room : (e : ℕ) → e < n → e < length l → get_or l e 0 / tally_unit ≡ k → get_or l e 0 % tally_unit ≤ tallied k (take n l)
  unfolding pick
  has_room e h g is =
      let some = tallied_at k l n e h g in
      let here : counted_by k (get_or l e 0) ≡ get_or l e 0 % tally_unit = rw (eq-eqb (get_or l e 0 / tally_unit) k is) in
      omega arith

  pub counted_on : (e : ℕ) → e < n → e < length l → get_or l e 0 / tally_unit ≡ k → get_or l e 0 % tally_unit + 1 < tally_unit → OneMore k (take n l) (take n (set l e (get_or l e 0 + 1)))
  counted_on e h g is room j =
      let change = tallied-set j (get_or l e 0 + 1) l n e h g in
      let more = one_more j k (get_or l e 0) is room in
      omega arith

  pub counted_new : n < length l → OneMore k (take n l) (take (n + 1) (set l n (k * tally_unit + 1)))
  counted_new h j = rw (add-one n, take-suc-set l n (k * tally_unit + 1) h, tallied-append j (take n l) ((k * tally_unit + 1) ∷ []), tallied_last j (k * tally_unit + 1), a_new j k)
