-- A count of the pass is the sum of what the items bring; and with the counts a payload is judged.
-- Assumes nothing.
use Prim.Native.Nat.{ℕ, ◌+◌}
use mathlib.Core.Bool.{Bool, true, false, not}
use mathlib.Core.List.{List, [], ◌∷◌, flat_map}
use mathlib.Core.Path.{◌≡◌, refl, sym, ap, ◌∙◌}
use native.Mathlib.Omega.{arith}
use lib.Dec.{leb}
use lib.ListN.{length, length-append}
use borrow.Author.Tests.{le-leb}
use Rattle.numbers.specs.Tests.{pick, either, any_of}
use Rattle.numbers.specs.Result.{check, Outcome, finished}
use Rattle.hello.specs.Contents.{Item, parameters, nicknames, trees, smart_mac, ignored, malformed}
use Rattle.hello.specs.Reading.{is_malformed, parameters_in, gathered, items, single, understood, hello_read, refusal_of}
use Rattle.hello_judge.specs.declared.Counts.{Counts}
use Rattle.hello_judge.specs.Counting.{walked, nothing, counting, refusal_for}
use Rattle.std.specs.Prelude.{Ok}
use Rattle.numbers.specs.declared.refusals.Refusal.TheVariants.{HelloMalformed, ParametersMissing}

walked_adds : {A : Type 0} (f : Counts → ℕ) (h : Item → List A) → ((c : Counts) (i : Item) → f (counting c i) ≡ f c + length (h i)) → (c : Counts) (is : List Item) → f (walked counting c is) ≡ f c + length (flat_map h is)
unfolding walked flat_map
walked_adds f h e c [] = omega arith
walked_adds f h e c (i ∷ is) =
    let n = walked_adds f h e (counting c i) is in
    let m = e c i in
    let a = length-append (h i) (flat_map h is) in
    omega arith

pub from_nothing : {A : Type 0} (f : Counts → ℕ) (h : Item → List A) → ((c : Counts) (i : Item) → f (counting c i) ≡ f c + length (h i)) → f nothing ≡ 0 → (is : List Item) → f (walked counting nothing is) ≡ length (flat_map h is)
from_nothing f h e z is = let n = walked_adds f h e nothing is in omega arith

parameters_add : (c : Counts) (i : Item) → (counting c i).parameters ≡ c.parameters + length (parameters_in i)
unfolding counting parameters_in
parameters_add c (parameters p) = refl
parameters_add c (nicknames r) = omega arith
parameters_add c (trees t) = omega arith
parameters_add c (smart_mac m) = omega arith
parameters_add c ignored = omega arith
parameters_add c malformed = omega arith

-- a mark for each malformed item
marks : Item → List ℕ
marks (parameters p) = []
marks (nicknames r) = []
marks (trees t) = []
marks (smart_mac m) = []
marks ignored = []
marks malformed = 0 ∷ []

malformed_add : (c : Counts) (i : Item) → (counting c i).malformed ≡ c.malformed + length (marks i)
unfolding counting marks
malformed_add c (parameters p) = omega arith
malformed_add c (nicknames r) = omega arith
malformed_add c (trees t) = omega arith
malformed_add c (smart_mac m) = omega arith
malformed_add c ignored = omega arith
malformed_add c malformed = refl

any_marks : (is : List Item) → any_of is_malformed is ≡ leb 1 (length (flat_map marks is))
unfolding any_of flat_map is_malformed either marks
any_marks [] = refl
any_marks (parameters p ∷ is) = any_marks is
any_marks (nicknames r ∷ is) = any_marks is
any_marks (trees t ∷ is) = any_marks is
any_marks (smart_mac m ∷ is) = any_marks is
any_marks (ignored ∷ is) = any_marks is
any_marks (malformed ∷ is) = sym (le-leb 1 (length (0 ∷ flat_map marks is)) (omega arith))

by_tests : {A : Type 0} (b a d : Bool) (x : A) → check (not b) HelloMalformed (check a HelloMalformed (check d ParametersMissing finished)) ≡ refusal_of (check (not b) HelloMalformed (check a HelloMalformed (check d ParametersMissing (Ok x))))
unfolding pick check
by_tests true a d x = refl
by_tests false true true x = refl
by_tests false true false x = refl
by_tests false false d x = refl

pub judged : (l : List ℕ) (c : Counts) → c ≡ walked counting nothing (items l) → (j : Outcome (Unit {0})) → j ≡ refusal_for c → j ≡ refusal_of (hello_read l)
unfolding refusal_for hello_read understood single
judged l c e j f =
    let m : c.malformed ≡ length (flat_map marks (items l)) = ap (λ (x : Counts). x.malformed) e ∙ from_nothing (λ x. x.malformed) marks malformed_add refl (items l) in
    let p : c.parameters ≡ length (flat_map parameters_in (items l)) = ap (λ (x : Counts). x.parameters) e ∙ from_nothing (λ x. x.parameters) parameters_in parameters_add refl (items l) in
    f ∙ rw (m, p, any_marks (items l)) (by_tests (leb 1 (length (flat_map marks (items l)))) (leb (length (flat_map parameters_in (items l))) 1) (leb 1 (length (flat_map parameters_in (items l)))) (gathered (items l)))
