-- Takers: every refusal is 25, so that a test may be made with each entry or after all of them.
-- Assumes nothing.
use Prim.Native.Nat.{ℕ, zero, suc}
use mathlib.Core.Bool.{Bool, true, false}
use mathlib.Core.List.{List, [], ◌∷◌, map}
use mathlib.Core.Path.{◌≡◌, refl, sym, ap, ◌∙◌}
use Rattle.numbers.specs.Tests.{both, all_of}
use Rattle.numbers.specs.Result.{Outcome, check, and_then}
use Rattle.numbers.proofs.Answers.{refused_got}
use Rattle.hello.specs.Area.{Taken, Taker, taken, take_one, then, take_many, take_counted, take_parameters, take_nickname, take_trees, take_smart_mac}
use Rattle.hello_area.specs.Entries.{via}
use Rattle.std.specs.Prelude.{Ok, Err}
use Rattle.numbers.specs.declared.refusals.Refusal.TheVariants.{HelloMalformed}
use Rattle.numbers.specs.declared.refusals.Refusal.{Refusal}

-- ---- every refusal is 25

abbrev pub Only : {A : Type 0} → Taker A → Type 0
Only p = (l : List ℕ) (m : Refusal) → p l ≡ Err m → m ≡ HelloMalformed

refused_same : {A : Type 0} (m n : Refusal) → ◌≡◌ {A = Outcome A} (Err m) (Err n) → n ≡ m
refused_same m n p = cc

pub only_taken : {A : Type 0} (x : A) → Only (taken x)
only_taken x l m e = refused_got m (record { value = x; rest = l }) (sym e)

after_only : {A B : Type 0} (r : Outcome (Taken A)) (k : A → Taker B) (m : Refusal) → ((n : Refusal) → r ≡ Err n → n ≡ HelloMalformed) → ((x : A) → Only (k x)) → and_then r (λ t. k t.value t.rest) ≡ Err m → m ≡ HelloMalformed
unfolding and_then
after_only (Err n) k m first next e = refused_same n m e ∙ first n refl
after_only (Ok t) k m first next e = next t.value t.rest m e

pub only_then : {A B : Type 0} (p : Taker A) (k : A → Taker B) → Only p → ((x : A) → Only (k x)) → Only (then p k)
unfolding then
only_then p k first next l m e = after_only (p l) k m (λ n f. first l n f) next e

pub only_one : Only take_one
unfolding take_one
only_one [] m e = refused_same HelloMalformed m e
only_one (n ∷ r) m e = refused_got m (record { value = n; rest = r }) (sym e)

pub only_many : {A : Type 0} (p : Taker A) → Only p → (n : ℕ) → Only (take_many p n)
unfolding take_many
only_many p o zero = only_taken []
only_many p o (suc n) = only_then p _ o (λ x. only_then (take_many p n) _ (only_many p o n) (λ xs. only_taken (x ∷ xs)))

pub only_counted : {A : Type 0} (p : Taker A) → Only p → Only (take_counted p)
unfolding take_counted
only_counted p o = only_then take_one (take_many p) only_one (λ n. only_many p o n)

pub only_parameters : Only take_parameters
unfolding take_parameters
only_parameters = only_then take_one _ only_one (λ h. only_then take_one _ only_one (λ f. only_taken _))

pub only_nickname : Only take_nickname
unfolding take_nickname
only_nickname = only_then take_one _ only_one (λ p. only_then take_one _ only_one (λ r. only_then take_one _ only_one (λ n. only_taken _)))

pub only_trees : Only take_trees
unfolding take_trees
only_trees = only_then take_one _ only_one (λ s. only_then (take_counted take_one) _ (only_counted take_one only_one) (λ ns. only_taken _))

pub only_smart_mac : Only take_smart_mac
unfolding take_smart_mac
only_smart_mac =
    only_then take_one _ only_one (λ f. only_then take_one _ only_one (λ m. only_then take_one _ only_one (λ n. only_then (take_counted take_one) _ (only_counted take_one only_one) (λ ms. only_taken _))))

-- ---- a test with each, or after all

-- a test may wait for what is taken later
pub later : {X Y : Type 0} (b : Bool) (x : Outcome X) (k : X → Outcome Y) → ((m : Refusal) → x ≡ Err m → m ≡ HelloMalformed) → check b HelloMalformed (and_then x k) ≡ and_then x (λ t. check b HelloMalformed (k t))
unfolding check and_then
later true (Err m) k only = refl
later true (Ok t) k only = refl
later false (Err m) k only = ap Err (sym (only m refl))
later false (Ok t) k only = refl

pub then_same : {X Y : Type 0} (x : Outcome X) (k j : X → Outcome Y) → ((t : X) → k t ≡ j t) → and_then x k ≡ and_then x j
unfolding and_then
then_same (Err m) k j h = refl
then_same (Ok t) k j h = h t

pub then-then : {X Y Z : Type 0} (x : Outcome X) (k : X → Outcome Y) (j : Y → Outcome Z) → and_then (and_then x k) j ≡ and_then x (λ t. and_then (k t) j)
unfolding and_then
then-then (Err m) k j = refl
then-then (Ok t) k j = refl

pub check-then : {X Y : Type 0} (b : Bool) (x : Outcome X) (k : X → Outcome Y) → and_then (check b HelloMalformed x) k ≡ check b HelloMalformed (and_then x k)
unfolding and_then check
check-then true x k = refl
check-then false x k = refl

pub check-check : {X : Type 0} (a b : Bool) (x : Outcome X) → check a HelloMalformed (check b HelloMalformed x) ≡ check (both a b) HelloMalformed x
unfolding check both
check-check true b x = refl
check-check false b x = refl

-- what follows a test agrees where it passes
pub after_check : {X Y : Type 0} (b : Bool) (x : X) (k j : X → Outcome Y) → k x ≡ j x → and_then (check b HelloMalformed (Ok x)) k ≡ and_then (check b HelloMalformed (Ok x)) j
unfolding and_then check
after_check true x k j e = e
after_check false x k j e = refl

-- a refusal after a test
after_refused : {X Y : Type 0} (b : Bool) (x : X) (m : Refusal) (r : Outcome Y) → r ≡ Err m → m ≡ HelloMalformed → and_then (check b HelloMalformed (Ok x)) (λ _. r) ≡ Err m
unfolding and_then check
after_refused true x m r e h = e
after_refused false x m r e h = ap Err (sym h)

via_none : {A B : Type 0} (g : A → Bool) (f : A → B) (l : List ℕ) → taken {A = List B} [] l ≡ and_then (taken {A = List A} [] l) λ t. check (all_of g t.value) HelloMalformed (taken (map f t.value) t.rest)
unfolding and_then check all_of
via_none g f l = refl

via_whole : {A B : Type 0} (g : A → Bool) (f : A → B) (x : A) (xs : List A) (r : List ℕ) → check (both (g x) (all_of g xs)) HelloMalformed (taken (f x ∷ map f xs) r) ≡ and_then (taken (x ∷ xs) r) λ t. check (all_of g t.value) HelloMalformed (taken (map f t.value) t.rest)
unfolding and_then all_of
via_whole g f x xs r = refl

module _ {A B : Type 0} (p : Taker A) (g : A → Bool) (f : A → B) (o : Only p) where
  -- what is made of the rest behind one entry
  Rest : Taken A → Outcome (Taken (List A)) → Outcome (Taken (List B))
  Rest t r = and_then r λ u. check (both (g t.value) (all_of g u.value)) HelloMalformed (taken (f t.value ∷ map f u.value) u.rest)

  front : (t : Taken A) (r : Outcome (Taken (List A))) → ((m : Refusal) → r ≡ Err m → m ≡ HelloMalformed)
      → and_then (check (g t.value) HelloMalformed (taken (f t.value) t.rest)) (λ s. and_then (and_then r λ u. check (all_of g u.value) HelloMalformed (taken (map f u.value) u.rest)) λ u. taken (s.value ∷ u.value) u.rest) ≡ Rest t r
  unfolding and_then check both Rest
  front t (Err m) only = after_refused (g t.value) _ m (Err m) refl (only m refl)
  front t (Ok v) only = go (g t.value) (all_of g v.value)
    where
      go : (b c : Bool) → and_then (check b HelloMalformed (taken (f t.value) t.rest)) (λ s. and_then (check c HelloMalformed (taken (map f v.value) v.rest)) λ u. taken (s.value ∷ u.value) u.rest) ≡ check (both b c) HelloMalformed (taken (f t.value ∷ map f v.value) v.rest)
      go true true = refl
      go true false = refl
      go false c = refl

  back : (t : Taken A) (r : Outcome (Taken (List A))) → and_then (and_then r λ u. taken (t.value ∷ u.value) u.rest) (λ u. check (all_of g u.value) HelloMalformed (taken (map f u.value) u.rest)) ≡ Rest t r
  unfolding and_then all_of Rest
  back t (Err m) = refl
  back t (Ok v) = refl

  one_more : (n : ℕ) (q : Taker (List B)) → ((l : List ℕ) → q l ≡ via (take_many p n) (all_of g) (map f) l) → (r : Outcome (Taken A))
      → and_then (and_then r λ t. check (g t.value) HelloMalformed (taken (f t.value) t.rest)) (λ s. and_then (q s.rest) λ u. taken (s.value ∷ u.value) u.rest)
      ≡ and_then (and_then r λ s. and_then (take_many p n s.rest) λ u. taken (s.value ∷ u.value) u.rest) λ u. check (all_of g u.value) HelloMalformed (taken (map f u.value) u.rest)
  unfolding and_then via
  one_more n q h (Err m) = refl
  one_more n q h (Ok t) =
      after_check (g t.value) _ _ _ (ap (λ (r : Outcome (Taken (List B))). and_then r λ u. taken (f t.value ∷ u.value) u.rest) (h t.rest))
      ∙ front t (take_many p n t.rest) (λ m e. only_many p o n t.rest m e)
      ∙ sym (back t (take_many p n t.rest))

  -- entries that are tested one by one
  pub many_via : (n : ℕ) (l : List ℕ) → take_many (via p g f) n l ≡ via (take_many p n) (all_of g) (map f) l
  unfolding take_many via then
  many_via zero l = via_none g f l
  many_via (suc n) l = one_more n (take_many (via p g f) n) (many_via n) (p l)
