-- Laws of a key counted once more, by a set or by tallies, and of the keys of a table.
-- Assumes nothing.
use Prim.Native.Nat.{ℕ, zero, suc, ◌+◌, ◌*◌, ◌≤◌}
use mathlib.Core.List.{List, [], ◌∷◌, ◌++◌}
use mathlib.Core.Path.{◌≡◌, refl, ap, ◌∙◌}
use native.Mathlib.Numerals.{add-one}
use native.Mathlib.Omega.{arith}
use lib.Dec.{eqb}
use lib.ListN.{length, take, drop, length-append}
use Rattle.numbers.specs.Tests.{pick}
use Rattle.table.specs.Record.{unpacked}
use Rattle.table.specs.Slots.{slot_bytes, slot_at}
use Rattle.table.proofs.Contents.{unpacked_near}
use Rattle.flush_sort.specs.Sorting.{Sorted}
use Rattle.report_keys.specs.Keys.{key_of, keys_to, times_in}
use Rattle.report_keys.proofs.Laws.{times_append, times_last, times_few}
use Rattle.report_tally.specs.Tallies.{tallied, Tallies, OneMore}
use Rattle.report_tally.proofs.Laws.{tallied-append}
use Rattle.report_set.specs.Set.{set_tallies}
use Rattle.report_set.proofs.Laws.{set_sorted}

-- ---- one key more

module _ (k : ℕ) (a b : List ℕ) (l m : List ℕ) where
  -- counted in the first part, or in the second
  pub first_more : OneMore k a b → m ≡ l → OneMore k (a ++ l) (b ++ m)
  first_more more same j =
      let e = more j in
      let f = tallied-append j a l in
      let g = tallied-append j b m in
      let s : tallied j m ≡ tallied j l = ap (tallied j) same in
      omega arith

  pub second_more : b ≡ a → OneMore k l m → OneMore k (a ++ l) (b ++ m)
  second_more same more j =
      let e = more j in
      let f = tallied-append j a l in
      let g = tallied-append j b m in
      let s : tallied j b ≡ tallied j a = ap (tallied j) same in
      omega arith

-- the same with lists that are as they were
pub first_new : (k n : ℕ) (t u b l m : List ℕ) → u ≡ t → OneMore k (take n u) b → m ≡ l → OneMore k (take n t ++ set_tallies 0 l) (b ++ set_tallies 0 m)
first_new k n t u b l m old more same = first_more k (take n t) b (set_tallies 0 l) (set_tallies 0 m) (rw old at more) (ap (set_tallies 0) same)

-- ---- the keys of a table

pub none_yet : (t l s : List ℕ) → s ≡ [] → Tallies (keys_to 0 t) (take 0 l ++ s)
unfolding keys_to times_in tallied
none_yet t l s e k = rw e

pub length_keys : (n : ℕ) (t : List ℕ) → length (keys_to n t) ≡ n
unfolding keys_to
length_keys zero t = refl
length_keys (suc n) t = length-append (keys_to n t) _ ∙ let r = length_keys n t in omega arith

-- none is counted more often than there are keys
pub few_counted : (t a s : List ℕ) (i k : ℕ) → Tallies (keys_to i t) (a ++ s) → tallied k a ≤ i
few_counted t a s i k so_far =
    let e = so_far k in
    let f = times_few k (keys_to i t) in
    let g = length_keys i t in
    let h = tallied-append k a s in
    omega arith

pub slot_counted : (t a b : List ℕ) (i v : ℕ) → Tallies (keys_to i t) a → v ≡ key_of (unpacked (drop (slot_bytes * i) t)) → OneMore v a b → Tallies (keys_to (i + 1) t) b
unfolding keys_to
slot_counted t a b i v so_far ev one k =
    let was = so_far k in
    let now = one k in
    let next : times_in k (keys_to (i + 1) t) ≡ times_in k (keys_to i t) + pick (eqb v k) 1 0 =
    rw (add-one i, times_append k (keys_to i t) (key_of (unpacked (slot_at i t)) ∷ []), times_last k (key_of (unpacked (slot_at i t))), ev, unpacked_near (drop (slot_bytes * i) t)) in
    omega arith

-- ---- all of them

-- where none came from elsewhere, those of the set are in order
pub only_set : (s u v : List ℕ) (n : ℕ) → v ≡ take n u ++ set_tallies 0 s → n ≡ 0 → Sorted v
only_set s u v n e none = rw (e, none) (set_sorted s)

pub all-counted : (keys a v : List ℕ) → v ≡ a → Tallies keys a → Tallies keys v
all-counted keys a v e counted k = ap (tallied k) e ∙ counted k
