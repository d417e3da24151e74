-- The judgement of a contents area: it is written exactly if its four sections end where it ends and it has one Smart-Parameters.
-- Assumes nothing.
use Prim.Native.Nat.{ℕ, ◌-◌, ◌%◌, ◌<◌, ◌≤◌}
use mathlib.Core.Bool.{Bool, true, false}
use mathlib.Core.List.{List, [], ◌∷◌, flat_map}
use mathlib.Core.Path.{◌≡◌, refl, sym, ap, ◌∙◌}
use native.Mathlib.Omega.{arith}
use lib.Dec.{leb, eqb}
use lib.ListN.{length, get_or}
use borrow.Author.Tests.{eq-eqb, ne_eqb, le-leb, lt-leb, leb-true}
use Rattle.numbers.specs.Tests.{pick}
use Rattle.numbers.specs.Bytes.{bytes_of}
use Rattle.numbers.specs.Result.{Outcome, check, and_then, finished}
use Rattle.hello.specs.Pieces.{Sub}
use Rattle.hello.specs.Writing.{within, parameters_good, nickname_good, nickname_bytes, tlvs_of}
use Rattle.hello.specs.Area.{Taken, Taker, taken, take_one, then, take_many, take_counted, take_parameters, take_nickname}
use Rattle.hello.specs.Calls.{area_written}
use Rattle.hello_area.specs.Entries.{via, take_label, label_good, label_bytes, parameters_bytes, take_head, take_item, most_of, take_list, take_sub, take_both, take_subs, numbers_in, entries_written, end_in, reach}
use Rattle.hello_area.proofs.Takers.{Only, only_taken, only_then, only_one, only_many, only_counted, only_parameters, only_nickname}
use Rattle.hello_area.proofs.Whole.{entries_are}
use Rattle.hello_area.proofs.Places.{Suffix, suffix_then, suffix_taken, suffix_counted, reach_in}
use Rattle.hello_ends.proofs.Shapes.{suffix_sub}
use Rattle.std.specs.Prelude.{Ok, Err}
use Rattle.numbers.specs.declared.refusals.Refusal.TheVariants.{HelloMalformed, ParametersMissing}
use Rattle.numbers.specs.declared.refusals.Refusal.{Refusal}
use Rattle.hello.specs.Reading.{refusal_of}

-- ---- every refusal is 25

refused_same : {A : Type 0} (m n : Refusal) → ◌≡◌ {A = Outcome A} (Err m) (Err n) → n ≡ m
refused_same m n p = cc

check_only : {A : Type 0} (b : Bool) (x : Outcome A) (m : Refusal) → ((n : Refusal) → x ≡ Err n → n ≡ HelloMalformed) → check b HelloMalformed x ≡ Err m → m ≡ HelloMalformed
unfolding check
check_only true x m h e = h m e
check_only false x m h e = refused_same HelloMalformed m e

after_only : {A B : Type 0} (z : Outcome A) (k : A → Outcome B) (m : Refusal) → ((n : Refusal) → z ≡ Err n → n ≡ HelloMalformed) → ((t : A) (n : Refusal) → k t ≡ Err n → n ≡ HelloMalformed) → and_then z k ≡ Err m → m ≡ HelloMalformed
unfolding and_then
after_only (Err n) k m first next e = refused_same n m e ∙ first n refl
after_only (Ok t) k m first next e = next t m e

only_via : {A B : Type 0} (p : Taker A) (g : A → Bool) (f : A → B) → Only p → Only (via p g f)
unfolding via
only_via p g f o l m e = after_only (p l) _ m (λ n q. o l n q) (λ t n q. check_only (g t.value) _ n (λ k r. only_taken (f t.value) t.rest k r) q) e

only_pick : {A : Type 0} (c : Bool) (p q : Taker A) → Only p → Only q → Only (pick c p q)
unfolding pick
only_pick true p q a b = a
only_pick false p q a b = b

only_label : Only take_label
unfolding take_label
only_label = only_then take_one _ only_one (λ f. only_then take_one _ only_one (λ m. only_then take_one _ only_one (λ n. only_taken _)))

only_item : (k : ℕ) → Only (take_item k)
unfolding take_item
only_item k =
    only_pick (eqb k 6) _ _ (only_via take_nickname nickname_good nickname_bytes only_nickname)
    (only_pick (eqb k 8) _ _ (only_via take_one (within 2) (bytes_of 2) only_one) (only_via take_one (within 6) (bytes_of 6) only_one))

only_head : (k : ℕ) → Only (take_head k)
unfolding take_head
only_head k =
    only_pick (eqb k 22) _ _ (only_via take_parameters parameters_good parameters_bytes only_parameters)
    (only_pick (eqb k 6) _ _ (only_taken [])
    (only_pick (eqb k 8) _ _ (only_via take_one (within 2) (bytes_of 2) only_one) (only_via take_label label_good label_bytes only_label)))

only_rest : {A B : Type 0} (b : Bool) (q : Taker A) (f : A → B) → Only q → Only (λ r. check b HelloMalformed (and_then (q r) λ t. taken (f t.value) t.rest))
only_rest b q f o l m e = check_only b _ m (λ n r. after_only (q l) _ n (λ k s. o l k s) (λ t k s. only_taken (f t.value) t.rest k s) r) e

only_list : (k : ℕ) → Only (take_list k)
unfolding take_list
only_list k = only_then take_one _ only_one (λ m. only_rest (leb m (most_of k)) (take_many (take_item k) m) (flat_map (λ (b : List ℕ). b)) (only_many (take_item k) (only_item k) m))

only_sub : (k : ℕ) → Only (take_sub k)
unfolding take_sub
only_sub k =
    only_pick (eqb k 22) _ _ (only_then (take_head k) _ (only_head k) (λ h. only_taken _))
    (only_then (take_head k) _ (only_head k) (λ h. only_then (take_list k) _ (only_list k) (λ b. only_taken _)))

only_both : (p q : Taker (List Sub)) → Only p → Only q → Only (take_both p q)
unfolding take_both
only_both p q a b = only_then p _ a (λ x. only_then q _ b (λ y. only_taken _))

suffix_both : (p q : Taker (List Sub)) → Suffix p → Suffix q → Suffix (take_both p q)
unfolding take_both
suffix_both p q a b = suffix_then p _ a (λ x. suffix_then q _ b (λ y. suffix_taken _))

only_section : (k : ℕ) → Only (take_counted (take_sub k))
only_section k = only_counted (take_sub k) (only_sub k)

suffix_section : (k : ℕ) → Suffix (take_counted (take_sub k))
suffix_section k = suffix_counted (take_sub k) (suffix_sub k)

pub only_subs : Only take_subs
unfolding take_subs
only_subs = only_both _ _ (only_section 22) (only_both _ _ (only_section 6) (only_both _ _ (only_section 8) (only_section 23)))

suffix_subs : Suffix take_subs
unfolding take_subs
suffix_subs = suffix_both _ _ (suffix_section 22) (suffix_both _ _ (suffix_section 6) (suffix_both _ _ (suffix_section 8) (suffix_section 23)))

-- ---- the judgement

pub bad_length : (area : List ℕ) → (length area % 8 ≡ 0 → ⊥) → Err HelloMalformed ≡ refusal_of (area_written area)
unfolding entries_written check
bad_length area d = rw (entries_are area, ne_eqb (length area % 8) 0 d)

whole_end : (ns : List ℕ) (e : ℕ) → e ≡ reach take_subs ns 0 → e ≡ end_in ns (take_subs ns)
whole_end ns e f = f ∙ reach_in take_subs ns 0 (omega arith)

some_there_at : (ns : List ℕ) (n e : ℕ) → n ≡ length ns → e ≡ end_in ns (take_subs ns) → e ≡ n → 0 < length ns
unfolding take_subs take_both take_counted then take_one and_then
some_there_at [] n e en ee h = absurd (omega arith)
some_there_at (x ∷ ns) n e en ee h = omega arith

pub some_there : (ns : List ℕ) (n e : ℕ) → n ≡ length ns → e ≡ reach take_subs ns 0 → e ≡ n → 0 < length ns
some_there ns n e en ee h = some_there_at ns n e en (whole_end ns e ee) h

got_there : (ns : List ℕ) (n e : ℕ) → n ≡ length ns → e ≡ n → (z : Outcome (Taken (List Sub))) → take_subs ns ≡ z → e ≡ end_in ns z → (t : Taken (List Sub)) × ((take_subs ns ≡ Ok t) × (length t.rest ≤ 0))
got_there ns n e en h (Err m) q f = absurd (omega arith)
got_there ns n e en h (Ok t) q f = let s = (suffix_subs ns t q).short in (t, (q, omega arith))

module _ (area : List ℕ) (eight : length area % 8 ≡ 0) (n : ℕ) (en : n ≡ length (numbers_in area)) (e : ℕ) (ee : e ≡ reach take_subs (numbers_in area) 0) where
  pub bad_end : (e ≡ n → ⊥) → Err HelloMalformed ≡ refusal_of (area_written area)
  unfolding entries_written check and_then
  bad_end d = rw (entries_are area, eq-eqb (length area % 8) 0 eight) (go (take_subs (numbers_in area)) refl)
    where
      rest_bad : (t : Taken (List Sub)) (c : Bool) → leb (length t.rest) 0 ≡ c → e ≡ length (numbers_in area) - length t.rest → (x : Outcome (List ℕ)) → Err HelloMalformed ≡ refusal_of (check c HelloMalformed x)
      rest_bad t true g f x = let h = leb-true (length t.rest) 0 g in absurd (d (omega arith))
      rest_bad t false g f x = refl

      go : (z : Outcome (Taken (List Sub))) → take_subs (numbers_in area) ≡ z → Err HelloMalformed ≡ refusal_of (and_then z λ t. check (leb (length t.rest) 0) HelloMalformed (check (leb (get_or (numbers_in area) 0 0) 1) HelloMalformed (check (leb 1 (get_or (numbers_in area) 0 0)) ParametersMissing (Ok (tlvs_of t.value)))))
      go (Err m) q = ap Err (sym (only_subs (numbers_in area) m q))
      go (Ok t) q = rest_bad t (leb (length t.rest) 0) refl (whole_end (numbers_in area) e ee ∙ ap (end_in (numbers_in area)) q) _

  module _ (good : e ≡ n) (p : ℕ) (ep : p ≡ get_or (numbers_in area) 0 0) where
    there : (t : Taken (List Sub)) × ((take_subs (numbers_in area) ≡ Ok t) × (length t.rest ≤ 0))
    there = got_there (numbers_in area) n e en good (take_subs (numbers_in area)) refl (whole_end (numbers_in area) e ee)

    pub area_twice : 1 < p → Err HelloMalformed ≡ refusal_of (area_written area)
    unfolding entries_written check and_then
    area_twice h = rw (entries_are area, eq-eqb (length area % 8) 0 eight, there.1.0, le-leb (length there.0.rest) 0 there.1.1, ← ep, lt-leb p 1 h)

    pub area_missing : p ≤ 1 → p < 1 → Err ParametersMissing ≡ refusal_of (area_written area)
    unfolding entries_written check and_then
    area_missing g h = rw (entries_are area, eq-eqb (length area % 8) 0 eight, there.1.0, le-leb (length there.0.rest) 0 there.1.1, ← ep, le-leb p 1 g, lt-leb 1 p h)

    pub area_good : p ≤ 1 → 1 ≤ p → finished ≡ refusal_of (area_written area)
    unfolding entries_written check and_then
    area_good g h = rw (entries_are area, eq-eqb (length area % 8) 0 eight, there.1.0, le-leb (length there.0.rest) 0 there.1.1, ← ep, le-leb p 1 g, le-leb 1 p h)
