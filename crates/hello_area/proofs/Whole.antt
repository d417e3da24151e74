-- The area taken entry by entry is the area taken as contents: one payload, one refusal.
-- Assumes nothing.
use Prim.Native.Nat.{ℕ, ◌%◌}
use mathlib.Core.Bool.{Bool, true, false}
use mathlib.Core.List.{List, [], ◌∷◌, ◌++◌, map}
use mathlib.Core.Path.{◌≡◌, refl, sym, ap, ◌∙◌}
use lib.Dec.{leb, eqb}
use lib.ListN.{length, get_or}
use Rattle.numbers.specs.Tests.{both, all_of}
use Rattle.numbers.specs.Result.{Outcome, check, and_then}
use Rattle.numbers.proofs.Answers.{then_got, got_got}
use Rattle.hello.specs.Pieces.{Sub}
use Rattle.hello.specs.Contents.{Parameters, Nickname, Trees, SmartMac, Contents}
use Rattle.hello.specs.Reading.{single}
use Rattle.hello.specs.Writing.{parameters_good, nicknames_good, trees_good, smart_mac_good, contents_good, parameters_sub, nicknames_sub, trees_sub, smart_mac_sub, subs_of, tlvs_of, hello_written}
use Rattle.hello.specs.Area.{Taken, Taker, taken, take_one, then, take_counted, take_parameters, take_nickname, take_trees, take_smart_mac, take_contents, contents_of, contents_in}
use Rattle.hello.specs.Calls.{area_written}
use Rattle.hello_area.specs.Entries.{via, take_sub, take_both, take_subs, numbers_in, entries_written}
use Rattle.hello_area.proofs.Takers.{Only, only_taken, only_then, only_counted, only_parameters, only_nickname, only_trees, only_smart_mac, then-then, then_same, check-then}
use Rattle.hello_area.proofs.Entries.{Pair, pair_via, got_then, section-via, sub_22, sub_6, sub_8, sub_23, many_length}
use Rattle.std.specs.Prelude.{Ok, Err}
use Rattle.numbers.specs.declared.refusals.Refusal.TheVariants.{HelloMalformed, ParametersMissing}

-- ---- two sections

pub record Two (A B : Type 0) : Type 0 where
  pub first : A
  pub second : B

abbrev two : {A B : Type 0} → A → B → Two A B
two a b = record { first = a; second = b }

take_two : {A B : Type 0} → Taker A → Taker B → Taker (Two A B)
take_two p q = then p λ a. then q λ b. taken (two a b)

only_two : {A B : Type 0} (p : Taker A) (q : Taker B) → Only p → Only q → Only (take_two p q)
unfolding take_two
only_two p q a b = only_then p _ a (λ x. only_then q _ b (λ y. only_taken _))

module _ {A B : Type 0} (p : Taker A) (g : A → Bool) (f : A → List Sub) (q : Taker B) (o : Only q) (g' : B → Bool) (f' : B → List Sub) where
  GoodTwo : Two A B → Bool
  GoodTwo x = both (g x.first) (g' x.second)

  SubsTwo : Two A B → List Sub
  SubsTwo x = f x.first ++ f' x.second

  two_pair : (l : List ℕ) → via (take_two p q) GoodTwo SubsTwo l ≡ and_then (p l) λ t. Pair g f q o g' f' (λ (a b : List Sub). a ++ b) t.value (q t.rest)
  unfolding via take_two then Pair GoodTwo SubsTwo
  two_pair l = then-then (p l) _ _ ∙ then_same (p l) _ _ (λ t. then-then (q t.rest) _ _ ∙ then_same (q t.rest) _ _ (λ u. got_then _ _))

  two_via : (x y : Taker (List Sub)) → ((l : List ℕ) → x l ≡ via p g f l) → ((l : List ℕ) → y l ≡ via q g' f' l) → (l : List ℕ) → take_both x y l ≡ via (take_two p q) GoodTwo SubsTwo l
  unfolding take_both then
  two_via x y a b l =
      ap (λ (z : Outcome (Taken (List Sub))). and_then z λ s. and_then (y s.rest) λ u. taken (s.value ++ u.value) u.rest) (a l)
      ∙ then_same (via p g f l) _ _ (λ s. ap (λ (z : Outcome (Taken (List Sub))). and_then z λ u. taken (s.value ++ u.value) u.rest) (b s.rest))
      ∙ pair_via g f q o g' f' (λ (a b : List Sub). a ++ b) p (via (take_two p q) GoodTwo SubsTwo) two_pair l

-- ---- all four

p22 : Taker (List Parameters)
p22 = take_counted take_parameters

p6 : Taker (List (List Nickname))
p6 = take_counted (take_counted take_nickname)

p8 : Taker (List Trees)
p8 = take_counted take_trees

p23 : Taker (List SmartMac)
p23 = take_counted take_smart_mac

only_22 : Only p22
unfolding p22
only_22 = only_counted take_parameters only_parameters

only_6 : Only p6
unfolding p6
only_6 = only_counted (take_counted take_nickname) (only_counted take_nickname only_nickname)

only_8 : Only p8
unfolding p8
only_8 = only_counted take_trees only_trees

only_23 : Only p23
unfolding p23
only_23 = only_counted take_smart_mac only_smart_mac

-- the last two, the last three, all
t8 : Taker (Two (List Trees) (List SmartMac))
t8 = take_two p8 p23

t6 : Taker (Two (List (List Nickname)) (Two (List Trees) (List SmartMac)))
t6 = take_two p6 t8

only_t8 : Only t8
unfolding t8
only_t8 = only_two p8 p23 only_8 only_23

only_t6 : Only t6
unfolding t6
only_t6 = only_two p6 t8 only_6 only_t8

good8 : Two (List Trees) (List SmartMac) → Bool
good8 = GoodTwo p8 (all_of trees_good) (map trees_sub) p23 only_23 (all_of smart_mac_good) (map smart_mac_sub)

subs8 : Two (List Trees) (List SmartMac) → List Sub
subs8 = SubsTwo p8 (all_of trees_good) (map trees_sub) p23 only_23 (all_of smart_mac_good) (map smart_mac_sub)

via8 : (l : List ℕ) → take_both (take_counted (take_sub 8)) (take_counted (take_sub 23)) l ≡ via t8 good8 subs8 l
unfolding t8 good8 subs8 p8 p23
via8 l =
    two_via p8 (all_of trees_good) (map trees_sub) p23 only_23 (all_of smart_mac_good) (map smart_mac_sub) (take_counted (take_sub 8)) (take_counted (take_sub 23))
    (section-via 8 take_trees trees_good trees_sub only_trees sub_8)
    (section-via 23 take_smart_mac smart_mac_good smart_mac_sub only_smart_mac sub_23) l

good6 : Two (List (List Nickname)) (Two (List Trees) (List SmartMac)) → Bool
good6 = GoodTwo p6 (all_of nicknames_good) (map nicknames_sub) t8 only_t8 good8 subs8

subs6 : Two (List (List Nickname)) (Two (List Trees) (List SmartMac)) → List Sub
subs6 = SubsTwo p6 (all_of nicknames_good) (map nicknames_sub) t8 only_t8 good8 subs8

via6 : (l : List ℕ) → take_both (take_counted (take_sub 6)) (take_both (take_counted (take_sub 8)) (take_counted (take_sub 23))) l ≡ via t6 good6 subs6 l
unfolding t6 good6 subs6 p6
via6 l =
    two_via p6 (all_of nicknames_good) (map nicknames_sub) t8 only_t8 good8 subs8 (take_counted (take_sub 6)) (take_both (take_counted (take_sub 8)) (take_counted (take_sub 23)))
    (section-via 6 (take_counted take_nickname) nicknames_good nicknames_sub (only_counted take_nickname only_nickname) sub_6) via8 l

Both22 : Type 0
Both22 = Two (List Parameters) (Two (List (List Nickname)) (Two (List Trees) (List SmartMac)))

good22 : Two (List Parameters) (Two (List (List Nickname)) (Two (List Trees) (List SmartMac))) → Bool
good22 = GoodTwo p22 (all_of parameters_good) (map parameters_sub) t6 only_t6 good6 subs6

subs22 : Two (List Parameters) (Two (List (List Nickname)) (Two (List Trees) (List SmartMac))) → List Sub
subs22 = SubsTwo p22 (all_of parameters_good) (map parameters_sub) t6 only_t6 good6 subs6

via22 : (l : List ℕ) → take_subs l ≡ via (take_two p22 t6) good22 subs22 l
unfolding take_subs good22 subs22 p22
via22 l =
    two_via p22 (all_of parameters_good) (map parameters_sub) t6 only_t6 good6 subs6 (take_counted (take_sub 22)) _
    (section-via 22 take_parameters parameters_good parameters_sub only_parameters sub_22) via6 l

contents_from : Two (List Parameters) (Two (List (List Nickname)) (Two (List Trees) (List SmartMac))) → Contents
contents_from x = record { parameters = x.first; nicknames = x.second.first; trees = x.second.second.first; macs = x.second.second.second }

two_then : {A B C : Type 0} (p : Taker A) (q : Taker B) (l : List ℕ) (k : Taken (Two A B) → Outcome C) → and_then (take_two p q l) k ≡ and_then (p l) λ t. and_then (q t.rest) λ u. k (record { value = two t.value u.value; rest = u.rest })
unfolding take_two then
two_then p q l k = then-then (p l) _ _ ∙ then_same (p l) _ _ (λ t. then-then (q t.rest) _ _ ∙ then_same (q t.rest) _ _ (λ u. got_then _ _))

contents_two : (l : List ℕ) → take_contents l ≡ and_then (take_two p22 t6 l) λ t. taken (contents_from t.value) t.rest
unfolding take_contents then contents_from t6 t8 p22 p6 p8 p23
contents_two l =
    sym (two_then p22 t6 l _ ∙ then_same (p22 l) _ _ (λ t. two_then p6 t8 t.rest _ ∙ then_same (p6 t.rest) _ _ (λ u. two_then p8 p23 u.rest _)))

same_good : (x : Two (List Parameters) (Two (List (List Nickname)) (Two (List Trees) (List SmartMac)))) → contents_good (contents_from x) ≡ good22 x
unfolding contents_good contents_from good22 good6 good8 GoodTwo
same_good x = refl

same_subs : (x : Two (List Parameters) (Two (List (List Nickname)) (Two (List Trees) (List SmartMac)))) → subs_of (contents_from x) ≡ subs22 x
unfolding subs_of contents_from subs22 subs6 subs8 SubsTwo
same_subs x = refl

pub subs_via : (l : List ℕ) → take_subs l ≡ via take_contents contents_good subs_of l
unfolding via
subs_via l =
    via22 l
    ∙ sym (ap (λ (z : Outcome (Taken Contents)). and_then z λ t. check (contents_good t.value) HelloMalformed (taken (subs_of t.value) t.rest)) (contents_two l)
    ∙ then-then (take_two p22 t6 l) _ _
    ∙ then_same (take_two p22 t6 l) _ _ (λ t. got_then _ _ ∙ rw (same_good t.value, same_subs t.value)))

-- ---- the payload

then-known : {X Y : Type 0} (x : Outcome X) (k j : X → Outcome Y) → ((t : X) → x ≡ Ok t → k t ≡ j t) → and_then x k ≡ and_then x j
unfolding and_then
then-known (Err m) k j h = refl
then-known (Ok t) k j h = h t refl

check_swap : {X : Type 0} (a b : Bool) (x : Outcome X) → check a HelloMalformed (check b HelloMalformed x) ≡ check b HelloMalformed (check a HelloMalformed x)
unfolding check
check_swap true true x = refl
check_swap true false x = refl
check_swap false true x = refl
check_swap false false x = refl

one_first : (l : List ℕ) (t : Taken ℕ) → take_one l ≡ Ok t → t.value ≡ get_or l 0 0
unfolding take_one
one_first [] t e = let z : ◌≡◌ {A = ℕ} 0 1 = cc in cc
one_first (n ∷ r) t e = sym (ap (λ (s : Taken ℕ). s.value) (got_got (record { value = n; rest = r }) t e))

first_count : (l : List ℕ) (t : Taken Contents) → take_contents l ≡ Ok t → length t.value.parameters ≡ get_or l 0 0
unfolding take_contents then take_counted
first_count l t e =
    let a = then_got (take_counted take_parameters l) _ t e in
    let b = then_got (take_counted (take_counted take_nickname) a.0.rest) _ t a.2 in
    let c = then_got (take_counted take_trees b.0.rest) _ t b.2 in
    let d = then_got (take_counted take_smart_mac c.0.rest) _ t c.2 in
    let o = then_got (take_one l) _ a.0 a.1 in
    let n = many_length take_parameters o.0.value o.0.rest a.0 o.2 in
    sym (ap (λ (s : Taken Contents). length s.value.parameters) (got_got (record { value = record { parameters = a.0.value; nicknames = b.0.value; trees = c.0.value; macs = d.0.value }; rest = d.0.rest }) t d.2))
    ∙ n ∙ one_first l o.0 o.1

-- what is made of the sub-TLVs
Ending : ℕ → Taken (List Sub) → Outcome (List ℕ)
Ending n t = check (leb (length t.rest) 0) HelloMalformed (check (leb n 1) HelloMalformed (check (leb 1 n) ParametersMissing (Ok (tlvs_of t.value))))

written_then : (ns : List ℕ) (t : Taken Contents) → take_contents ns ≡ Ok t
    → and_then (check (leb (length t.rest) 0) HelloMalformed (Ok t.value)) hello_written ≡ and_then (check (contents_good t.value) HelloMalformed (taken (subs_of t.value) t.rest)) (Ending (get_or ns 0 0))
unfolding hello_written single Ending
written_then ns t e =
    check-then (leb (length t.rest) 0) (Ok t.value) hello_written
    ∙ ap (check (leb (length t.rest) 0) HelloMalformed) (got_then t.value hello_written)
    ∙ check_swap (leb (length t.rest) 0) (contents_good t.value) _
    ∙ ap (λ (n : ℕ). check (contents_good t.value) HelloMalformed (check (leb (length t.rest) 0) HelloMalformed (check (leb n 1) HelloMalformed (check (leb 1 n) ParametersMissing (Ok (tlvs_of (subs_of t.value))))))) (first_count ns t e)
    ∙ sym (check-then (contents_good t.value) (taken (subs_of t.value) t.rest) (Ending (get_or ns 0 0)) ∙ ap (check (contents_good t.value) HelloMalformed) (got_then _ (Ending (get_or ns 0 0))))

all_then : (ns : List ℕ) → and_then (contents_of ns) hello_written ≡ and_then (take_subs ns) (Ending (get_or ns 0 0))
unfolding contents_of via
all_then ns =
    then-then (take_contents ns) _ hello_written
    ∙ then-known (take_contents ns) _ _ (λ t e. written_then ns t e)
    ∙ sym (then-then (take_contents ns) _ (Ending (get_or ns 0 0)))
    ∙ ap (λ (z : Outcome (Taken (List Sub))). and_then z (Ending (get_or ns 0 0))) (sym (subs_via ns))

pub entries_are : (area : List ℕ) → area_written area ≡ entries_written area
unfolding area_written contents_in entries_written numbers_in Ending
entries_are area = check-then (eqb (length area % 8) 0) _ hello_written ∙ ap (check (eqb (length area % 8) 0) HelloMalformed) (all_then (numbers_in area))
