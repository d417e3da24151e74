-- The contents of a payload by sections; and each section's counts from those of the pass.
-- Assumes nothing.
use Prim.Native.Nat.{ℕ, ◌+◌}
use mathlib.Core.List.{List, [], ◌∷◌, ◌++◌, map, flat_map, append-nil}
use mathlib.Core.Path.{◌≡◌, refl, sym, ap, ◌∙◌}
use native.Mathlib.Omega.{arith}
use lib.ListN.{length, length-map}
use Rattle.numbers.specs.Tests.{pick}
use Rattle.numbers.proofs.Lists.{map-append}
use Rattle.hello.specs.Contents.{Item, parameters, nicknames, trees, smart_mac, ignored, malformed}
use Rattle.hello.specs.Reading.{parameters_in, nicknames_in, trees_in, macs_in, gathered}
use Rattle.hello.specs.Area.{counted, alone, parameters_numbers, nickname_numbers, trees_numbers, smart_mac_numbers, numbers_of}
use Rattle.hello_judge.specs.declared.Counts.{Counts}
use Rattle.hello_judge.specs.Counting.{walked, nothing, counting}
use Rattle.hello_judge.proofs.Sums.{from_nothing}
use Rattle.hello_count.specs.Sections.{brought, joined, section}
use Rattle.hello_count.proofs.Subs.{counted-length, alone-length, nickname_length}
use Rattle.hello_count.proofs.Levels.{flat_flat}

-- ---- sections

brought-all : {A : Type 0} (k : ℕ) (f : A → List ℕ) (from : Item → List A) → ((i : Item) → brought k i ≡ map f (from i)) → (is : List Item) → flat_map (brought k) is ≡ map f (flat_map from is)
unfolding flat_map
brought-all k f from h [] = refl
brought-all k f from h (i ∷ is) = rw (h i, brought-all k f from h is) (sym (map-append f (from i) (flat_map from is)))

joined-map : {A : Type 0} (f : A → List ℕ) (xs : List A) → joined (map f xs) ≡ flat_map f xs
unfolding joined flat_map
joined-map f [] = refl
joined-map f (x ∷ xs) = rw (joined-map f xs)

section_is : {A : Type 0} (k : ℕ) (f : A → List ℕ) (from : Item → List A) → ((i : Item) → brought k i ≡ map f (from i)) → (is : List Item) → counted f (flat_map from is) ≡ section k is
unfolding counted section
section_is k f from h is = sym (rw (brought-all k f from h is, length-map (flat_map from is) f, joined-map f (flat_map from is)))

parameters_in_lem : (i : Item) → brought 22 i ≡ map parameters_numbers (parameters_in i)
unfolding brought pick parameters_in
parameters_in_lem (parameters p) = refl
parameters_in_lem (nicknames r) = refl
parameters_in_lem (trees t) = refl
parameters_in_lem (smart_mac m) = refl
parameters_in_lem ignored = refl
parameters_in_lem malformed = refl

nicknames_in_lem : (i : Item) → brought 6 i ≡ map (counted nickname_numbers) (nicknames_in i)
unfolding brought pick nicknames_in
nicknames_in_lem (parameters p) = refl
nicknames_in_lem (nicknames r) = refl
nicknames_in_lem (trees t) = refl
nicknames_in_lem (smart_mac m) = refl
nicknames_in_lem ignored = refl
nicknames_in_lem malformed = refl

trees_in_lem : (i : Item) → brought 8 i ≡ map trees_numbers (trees_in i)
unfolding brought pick trees_in
trees_in_lem (parameters p) = refl
trees_in_lem (nicknames r) = refl
trees_in_lem (trees t) = refl
trees_in_lem (smart_mac m) = refl
trees_in_lem ignored = refl
trees_in_lem malformed = refl

macs_in_lem : (i : Item) → brought 23 i ≡ map smart_mac_numbers (macs_in i)
unfolding brought pick macs_in
macs_in_lem (parameters p) = refl
macs_in_lem (nicknames r) = refl
macs_in_lem (trees t) = refl
macs_in_lem (smart_mac m) = refl
macs_in_lem ignored = refl
macs_in_lem malformed = refl

pub sections : (is : List Item) → numbers_of (gathered is) ≡ section 22 is ++ (section 6 is ++ (section 8 is ++ section 23 is))
unfolding numbers_of
sections is =
    rw (section_is 22 parameters_numbers parameters_in parameters_in_lem is, section_is 6 (counted nickname_numbers) nicknames_in nicknames_in_lem is, section_is 8 trees_numbers trees_in trees_in_lem is, section_is 23 smart_mac_numbers macs_in macs_in_lem is)

-- ---- the counts of the pass

-- the numbers of an item in the section of a type
numbers_in : ℕ → Item → List ℕ
numbers_in k i = joined (brought k i)

numbers_all : (k : ℕ) (is : List Item) → length (flat_map (numbers_in k) is) ≡ length (joined (flat_map (brought k) is))
unfolding numbers_in joined
numbers_all k is = ap length (sym (flat_flat (λ (x : List ℕ). x) (brought k) is))

module _ (c : Counts) where
  add_22 : (i : Item) → (counting c i).parameters ≡ c.parameters + length (brought 22 i)
  unfolding counting brought pick
  add_22 (parameters p) = refl
  add_22 (nicknames r) = omega arith
  add_22 (trees t) = omega arith
  add_22 (smart_mac m) = omega arith
  add_22 ignored = omega arith
  add_22 malformed = omega arith

  add_6 : (i : Item) → (counting c i).nicknames ≡ c.nicknames + length (brought 6 i)
  unfolding counting brought pick
  add_6 (parameters p) = omega arith
  add_6 (nicknames r) = refl
  add_6 (trees t) = omega arith
  add_6 (smart_mac m) = omega arith
  add_6 ignored = omega arith
  add_6 malformed = omega arith

  add_8 : (i : Item) → (counting c i).trees ≡ c.trees + length (brought 8 i)
  unfolding counting brought pick
  add_8 (parameters p) = omega arith
  add_8 (nicknames r) = omega arith
  add_8 (trees t) = refl
  add_8 (smart_mac m) = omega arith
  add_8 ignored = omega arith
  add_8 malformed = omega arith

  add_23 : (i : Item) → (counting c i).macs ≡ c.macs + length (brought 23 i)
  unfolding counting brought pick
  add_23 (parameters p) = omega arith
  add_23 (nicknames r) = omega arith
  add_23 (trees t) = omega arith
  add_23 (smart_mac m) = refl
  add_23 ignored = omega arith
  add_23 malformed = omega arith

  sum_22 : (i : Item) → (counting c i).parameter_numbers ≡ c.parameter_numbers + length (numbers_in 22 i)
  unfolding counting numbers_in brought pick joined flat_map parameters_numbers
  sum_22 (parameters p) = refl
  sum_22 (nicknames r) = omega arith
  sum_22 (trees t) = omega arith
  sum_22 (smart_mac m) = omega arith
  sum_22 ignored = omega arith
  sum_22 malformed = omega arith

  sum_6 : (i : Item) → (counting c i).nickname_numbers ≡ c.nickname_numbers + length (numbers_in 6 i)
  unfolding counting numbers_in brought pick joined flat_map
  sum_6 (parameters p) = omega arith
  sum_6 (nicknames r) =
      let n = counted-length 3 nickname_numbers nickname_length r in
      let a = ap length (append-nil (counted nickname_numbers r)) in
      omega arith
  sum_6 (trees t) = omega arith
  sum_6 (smart_mac m) = omega arith
  sum_6 ignored = omega arith
  sum_6 malformed = omega arith

  sum_8 : (i : Item) → (counting c i).tree_numbers ≡ c.tree_numbers + length (numbers_in 8 i)
  unfolding counting numbers_in brought pick joined flat_map trees_numbers
  sum_8 (parameters p) = omega arith
  sum_8 (nicknames r) = omega arith
  sum_8 (trees t) =
      let n = counted-length 1 alone alone-length t.nicknames in
      let a = ap length (append-nil (t.start ∷ counted alone t.nicknames)) in
      omega arith
  sum_8 (smart_mac m) = omega arith
  sum_8 ignored = omega arith
  sum_8 malformed = omega arith

  sum_23 : (i : Item) → (counting c i).mac_numbers ≡ c.mac_numbers + length (numbers_in 23 i)
  unfolding counting numbers_in brought pick joined flat_map smart_mac_numbers
  sum_23 (parameters p) = omega arith
  sum_23 (nicknames r) = omega arith
  sum_23 (trees t) = omega arith
  sum_23 (smart_mac m) =
      let n = counted-length 1 alone alone-length m.macs in
      let a = ap length (append-nil (m.fine ∷ m.multihomed ∷ m.label ∷ counted alone m.macs)) in
      omega arith
  sum_23 ignored = omega arith
  sum_23 malformed = omega arith

module _ (is : List Item) (c : Counts) (e : c ≡ walked counting nothing is) where
  pub count_22 : c.parameters ≡ length (flat_map (brought 22) is)
  count_22 = rw e (from_nothing (λ x. x.parameters) (brought 22) add_22 refl is)

  pub count_6 : c.nicknames ≡ length (flat_map (brought 6) is)
  count_6 = rw e (from_nothing (λ x. x.nicknames) (brought 6) add_6 refl is)

  pub count_8 : c.trees ≡ length (flat_map (brought 8) is)
  count_8 = rw e (from_nothing (λ x. x.trees) (brought 8) add_8 refl is)

  pub count_23 : c.macs ≡ length (flat_map (brought 23) is)
  count_23 = rw e (from_nothing (λ x. x.macs) (brought 23) add_23 refl is)

  pub numbers_22 : c.parameter_numbers ≡ length (joined (flat_map (brought 22) is))
  numbers_22 = rw e (from_nothing (λ x. x.parameter_numbers) (numbers_in 22) sum_22 refl is) ∙ numbers_all 22 is

  pub numbers_6 : c.nickname_numbers ≡ length (joined (flat_map (brought 6) is))
  numbers_6 = rw e (from_nothing (λ x. x.nickname_numbers) (numbers_in 6) sum_6 refl is) ∙ numbers_all 6 is

  pub numbers_8 : c.tree_numbers ≡ length (joined (flat_map (brought 8) is))
  numbers_8 = rw e (from_nothing (λ x. x.tree_numbers) (numbers_in 8) sum_8 refl is) ∙ numbers_all 8 is

  pub numbers_23 : c.mac_numbers ≡ length (joined (flat_map (brought 23) is))
  numbers_23 = rw e (from_nothing (λ x. x.mac_numbers) (numbers_in 23) sum_23 refl is) ∙ numbers_all 23 is
