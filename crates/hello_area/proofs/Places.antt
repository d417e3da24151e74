-- Where a taker ends, by the place where it starts: takers one behind the other, and many of one.
-- Assumes nothing.
use Prim.Native.Nat.{ℕ, zero, suc, ◌+◌, ◌-◌, ◌<◌, ◌≤◌}
use mathlib.Core.Bool.{Bool, true, false}
use mathlib.Core.List.{List, [], ◌∷◌}
use mathlib.Core.Path.{◌≡◌, refl, sym, ap, ◌∙◌}
use native.Mathlib.Omega.{arith}
use lib.Dec.{leb}
use lib.ListN.{length, drop, length-drop}
use lib.Seq.{drop-drop}
use borrow.Author.Tests.{le-leb, lt-leb, leb-true, leb-false}
use Rattle.numbers.specs.Tests.{pick}
use Rattle.numbers.specs.Result.{Outcome, and_then}
use Rattle.numbers.proofs.Answers.{refused_got, got_got, then_got, check_got}
use Rattle.hello.specs.Area.{Taken, Taker, taken, take_one, then, take_many, take_counted}
use Rattle.hello_area.specs.Entries.{via, end_in, end_from, reach}
use Rattle.std.specs.Prelude.{Ok, Err}
use Rattle.numbers.specs.declared.refusals.Refusal.TheVariants.{HelloMalformed}

-- ---- what is left is the end of what there was

pub record Ends (l r : List ℕ) : Type 0 where
  pub short : length r ≤ length l
  pub is : r ≡ drop (length l - length r) l

abbrev pub Suffix : {A : Type 0} → Taker A → Type 0
Suffix {A} p = (l : List ℕ) (t : Taken A) → p l ≡ Ok t → Ends l t.rest

drop_zero : (l : List ℕ) (n : ℕ) → n ≡ 0 → l ≡ drop n l
drop_zero l n e = rw e

ends_same : (l : List ℕ) → Ends l l
ends_same l = record { short = omega arith; is = drop_zero l (length l - length l) (omega arith) }

ends_on : (l m r : List ℕ) → Ends l m → Ends m r → Ends l r
ends_on l m r a b =
    let x = a.short in
    let y = b.short in
    let n : length l - length m + (length m - length r) ≡ length l - length r = omega arith in
    record { short = omega arith; is = b.is ∙ ap (drop (length m - length r)) a.is ∙ drop-drop (length m - length r) (length l - length m) l ∙ ap (λ (k : ℕ). drop k l) n }

pub suffix_taken : {A : Type 0} (x : A) → Suffix (taken x)
suffix_taken x l t e = rw (ap (λ (s : Taken _). s.rest) (sym (got_got (record { value = x; rest = l }) t e))) (ends_same l)

pub suffix_one : Suffix take_one
unfolding take_one
suffix_one [] t e = refused_got HelloMalformed t e
suffix_one (n ∷ r) t e =
    let d : n ∷ r ≡ n ∷ r = refl in
    rw (ap (λ (s : Taken ℕ). s.rest) (sym (got_got (record { value = n; rest = r }) t e))) (record { short = omega arith; is = one_off n r (length (n ∷ r) - length r) (omega arith) })
  where
    one_off : (n : ℕ) (r : List ℕ) (k : ℕ) → k ≡ 1 → r ≡ drop k (n ∷ r)
    one_off n r k e = rw e

pub suffix_then : {A B : Type 0} (p : Taker A) (k : A → Taker B) → Suffix p → ((x : A) → Suffix (k x)) → Suffix (then p k)
unfolding then
suffix_then p k a b l t e =
    let s = then_got (p l) _ t e in
    ends_on l s.0.rest t.rest (a l s.0 s.1) (b s.0.value s.0.rest t s.2)

pub suffix_many : {A : Type 0} (p : Taker A) → Suffix p → (n : ℕ) → Suffix (take_many p n)
unfolding take_many
suffix_many p s zero = suffix_taken []
suffix_many p s (suc n) = suffix_then p _ s (λ x. suffix_then (take_many p n) _ (suffix_many p s n) (λ xs. suffix_taken (x ∷ xs)))

pub suffix_counted : {A : Type 0} (p : Taker A) → Suffix p → Suffix (take_counted p)
unfolding take_counted
suffix_counted p s = suffix_then take_one (take_many p) suffix_one (λ n. suffix_many p s n)

pub suffix_via : {A B : Type 0} (p : Taker A) (g : A → Bool) (f : A → B) → Suffix p → Suffix (via p g f)
unfolding via
suffix_via p g f s l t e =
    let a = then_got (p l) _ t e in
    let b = check_got (g a.0.value) HelloMalformed _ t a.2 in
    rw (ap (λ (x : Taken _). x.rest) (sym (got_got (record { value = f a.0.value; rest = a.0.rest }) t b.1))) (s l a.0 a.1)

-- ---- one behind the other

-- where the second ends, if the first does not refuse
module _ {A B C : Type 0} (ns : List ℕ) (i : ℕ) (inside : i ≤ length ns) (p : Taker A) (s : Suffix p) (q : Taker B) (h : A → B → C) where
  rest_at : (t : Taken A) → p (drop i ns) ≡ Ok t → (length ns - length t.rest ≤ length ns) × (t.rest ≡ drop (length ns - length t.rest) ns)
  rest_at t e =
      let d = length-drop i ns in
      let w = s (drop i ns) t e in
      let x = w.short in
      let n : i + (length (drop i ns) - length t.rest) ≡ length ns - length t.rest = omega arith in
      (omega arith, w.is ∙ drop-drop (length (drop i ns) - length t.rest) i ns ∙ ap (λ (k : ℕ). drop k ns) n)

  both_end : (z : Outcome (Taken A)) → p (drop i ns) ≡ z
      → end_in ns (and_then z λ t. and_then (q t.rest) λ u. taken (h t.value u.value) u.rest) ≡ pick (leb (end_in ns z) (length ns)) (end_from q ns (end_in ns z)) (1 + length ns)
  unfolding and_then pick end_from
  both_end (Err m) e = rw (lt-leb (1 + length ns) (length ns) (omega arith))
  both_end (Ok t) e =
      let w = rest_at t e in
      rw (le-leb (length ns - length t.rest) (length ns) w.0) (last (q t.rest) ∙ ap (λ (l : List ℕ). end_in ns (q l)) w.1)
    where
      last : (y : Outcome (Taken B)) → end_in ns (and_then y λ u. taken (h t.value u.value) u.rest) ≡ end_in ns y
      last (Err m) = refl
      last (Ok u) = refl

as_reach : {A : Type 0} (q : Taker A) (ns : List ℕ) (k : ℕ) → pick (leb k (length ns)) (end_from q ns k) (1 + length ns) ≡ reach q ns k
unfolding reach
as_reach q ns k = refl

pub value_lost : {A B : Type 0} (ns : List ℕ) (z : Outcome (Taken A)) (h : A → B) → end_in ns (and_then z λ t. taken (h t.value) t.rest) ≡ end_in ns z
unfolding and_then
value_lost ns (Err m) h = refl
value_lost ns (Ok t) h = refl

-- past the end it stays so
pub reach_over : {A : Type 0} (p : Taker A) (ns : List ℕ) (i : ℕ) → length ns < i → reach p ns i ≡ 1 + length ns
unfolding reach pick
reach_over p ns i h = rw (lt-leb i (length ns) h)

pub reach_in : {A : Type 0} (p : Taker A) (ns : List ℕ) (i : ℕ) → i ≤ length ns → reach p ns i ≡ end_in ns (p (drop i ns))
unfolding reach pick end_from
reach_in p ns i h = rw (le-leb i (length ns) h)

inside_or : (ns : List ℕ) (i : ℕ) (P : Type 0) → (i ≤ length ns → P) → (length ns < i → P) → P
inside_or ns i P a b = go (leb i (length ns)) refl
  where
    go : (c : Bool) → leb i (length ns) ≡ c → P
    go true e = a (leb-true i (length ns) e)
    go false e = b (leb-false i (length ns) e)

-- two takers, one behind the other
module _ {A B C : Type 0} (ns : List ℕ) (i : ℕ) (p : Taker A) (s : Suffix p) (q : Taker B) (h : A → B → C) (r : Taker C)
    (shape : r (drop i ns) ≡ and_then (p (drop i ns)) λ t. and_then (q t.rest) λ u. taken (h t.value u.value) u.rest) where
  chain_in : i ≤ length ns → reach r ns i ≡ reach q ns (reach p ns i)
  chain_in inside =
      reach_in r ns i inside
      ∙ ap (end_in ns) shape
      ∙ both_end ns i inside p s q h (p (drop i ns)) refl
      ∙ ap (λ (k : ℕ). pick (leb k (length ns)) (end_from q ns k) (1 + length ns)) (sym (reach_in p ns i inside))
      ∙ unfold_reach (reach p ns i)
    where
      unfold_reach : (k : ℕ) → pick (leb k (length ns)) (end_from q ns k) (1 + length ns) ≡ reach q ns k
      unfold_reach k = as_reach q ns k

  pub chain : reach r ns i ≡ reach q ns (reach p ns i)
  chain = inside_or ns i (reach r ns i ≡ reach q ns (reach p ns i)) chain_in (λ g. reach_over r ns i g ∙ sym (ap (reach q ns) (reach_over p ns i g) ∙ reach_over q ns (1 + length ns) (omega arith)))

-- a value in another form does not matter
pub reach_as : {A B : Type 0} (ns : List ℕ) (i : ℕ) (p : Taker A) (r : Taker B) (h : A → B) → r (drop i ns) ≡ and_then (p (drop i ns)) (λ t. taken (h t.value) t.rest) → reach r ns i ≡ reach p ns i
unfolding reach end_from
reach_as ns i p r h e = ap (λ (n : ℕ). pick (leb i (length ns)) n (1 + length ns)) (ap (end_in ns) e ∙ value_lost ns (p (drop i ns)) h)

-- many of one
module _ {A : Type 0} (p : Taker A) (s : Suffix p) (ns : List ℕ) where
  pub reach_none : (i : ℕ) → i ≤ length ns → reach (take_many p 0) ns i ≡ i
  unfolding take_many
  reach_none i h = let d = length-drop i ns in reach_in (take_many p 0) ns i h ∙ omega arith

  pub reach_next : (n i : ℕ) → reach (take_many p (suc n)) ns i ≡ reach (take_many p n) ns (reach p ns i)
  unfolding take_many then
  reach_next n i = chain ns i p s (take_many p n) (λ x xs. x ∷ xs) (take_many p (suc n)) refl
