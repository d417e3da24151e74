-- Where each part of an entry ends, by where its numbers end.
-- Assumes nothing.
use Prim.Native.Nat.{ℕ, suc, ◌+◌, ◌-◌, ◌<◌, ◌≤◌}
use mathlib.Core.Bool.{Bool, true, false}
use mathlib.Core.List.{List, [], ◌∷◌, ◌++◌, flat_map}
use mathlib.Core.Path.{◌≡◌, refl, sym, ap, ◌∙◌}
use native.Mathlib.Omega.{arith}
use lib.Dec.{leb, ltb, eqb}
use lib.ListN.{length, drop, get_or, length-drop}
use borrow.Author.Tests.{eq-eqb, ne_eqb, le-leb, lt-leb, lt-ltb, le-ltb, leb-true, leb-false}
use Rattle.numbers.specs.Tests.{pick, both}
use Rattle.numbers.specs.Bytes.{bytes_of}
use Rattle.numbers.specs.Result.{Outcome, check, and_then}
use Rattle.numbers.proofs.Answers.{got_got, check_got, then_got}
use Rattle.hello.specs.Pieces.{Sub}
use Rattle.hello.specs.Contents.{Nickname}
use Rattle.hello.specs.Writing.{within, parameters_good, nickname_good, nickname_bytes, label_top}
use Rattle.hello.specs.Area.{Taken, Taker, taken, take_one, then, take_many, take_counted, take_parameters, take_nickname}
use Rattle.hello_area.specs.Entries.{via, Label, take_label, label_good, label_bytes, parameters_bytes, take_head, take_item, most_of, take_list, holder_for, take_sub, take_both, take_subs, end_in, reach}
use Rattle.hello_area.proofs.Takers.{Only, only_one, only_then, only_taken, then-then, then_same}
use Rattle.hello_area.proofs.Entries.{Pair, pair_at_lem, got_then, via-map}
use Rattle.hello_area.proofs.Places.{Suffix, suffix_one, suffix_via, suffix_then, suffix_taken, suffix_many, suffix_counted, reach_in, reach_over, chain, reach_as, reach_none, reach_next, value_lost}
use Rattle.hello_ends.specs.Below.{TwoNumbers, take_below, take_pair, pair_below, take_two}
use Rattle.hello_ends.proofs.Numbers.{suffix_below, here}
use Rattle.numbers.specs.declared.refusals.Refusal.TheVariants.{HelloMalformed}

-- ---- two numbers

only_pair : Only take_pair
unfolding take_pair
only_pair = only_then take_one _ only_one (λ x. only_then take_one _ only_one (λ y. only_taken _))

abbrev pair_of : ℕ → ℕ → TwoNumbers
pair_of x y = record { left = x; right = y }

two_is : (a b : ℕ) (l : List ℕ) → take_two a b l ≡ and_then (take_one l) λ t. Pair (λ n. ltb n a) (λ n. n) take_one only_one (λ n. ltb n b) (λ n. n) pair_of t.value (take_one t.rest)
unfolding take_two via take_pair then Pair pair_below
two_is a b l = then-then (take_one l) _ _ ∙ then_same (take_one l) _ _ (λ t. then-then (take_one t.rest) _ _ ∙ then_same (take_one t.rest) _ _ (λ u. got_then _ _))

two_shape : (a b : ℕ) (l : List ℕ) → take_two a b l ≡ and_then (take_below a l) λ s. and_then (take_below b s.rest) λ u. taken (pair_of s.value u.value) u.rest
unfolding take_below
two_shape a b l = sym (pair_at_lem (λ n. ltb n a) (λ n. n) take_one only_one (λ n. ltb n b) (λ n. n) pair_of take_one l (take_two a b l) (two_is a b l))

two_reach : (ns : List ℕ) (i a b : ℕ) → reach (take_two a b) ns i ≡ reach (take_below b) ns (reach (take_below a) ns i)
two_reach ns i a b = chain ns i (take_below a) (suffix_below a) (take_below b) pair_of (take_two a b) (two_shape a b (drop i ns))

-- ---- a nickname

abbrev nickname_from : ℕ → TwoNumbers → Nickname
nickname_from p x = record { priority = p; root = x.left; nickname = x.right }

nick_is : (l : List ℕ) → take_item 6 l ≡ and_then (take_one l) λ t. Pair (λ n. ltb n 256) (λ n. n) take_pair only_pair (pair_below 65536 65536) (λ x. x) (λ p x. nickname_bytes (nickname_from p x)) t.value (take_pair t.rest)
unfolding take_item pick via take_nickname take_pair then Pair nickname_good pair_below
nick_is l =
    then-then (take_one l) _ _
    ∙ then_same (take_one l) _ _
    (λ t.
    then-then (take_one t.rest) _ _
    ∙ then_same (take_one t.rest) _ _ (λ u. then-then (take_one u.rest) _ _ ∙ then_same (take_one u.rest) _ _ (λ w. got_then _ _) ∙ sym (then-then (take_one u.rest) _ _ ∙ then_same (take_one u.rest) _ _ (λ w. got_then _ _)))
    ∙ sym (then-then (take_one t.rest) _ _))

nick_shape : (l : List ℕ) → take_item 6 l ≡ and_then (take_below 256 l) λ s. and_then (take_two 65536 65536 s.rest) λ u. taken (nickname_bytes (nickname_from s.value u.value)) u.rest
unfolding take_below take_two
nick_shape l = sym (pair_at_lem (λ n. ltb n 256) (λ n. n) take_pair only_pair (pair_below 65536 65536) (λ x. x) (λ p x. nickname_bytes (nickname_from p x)) take_one l (take_item 6 l) (nick_is l))

pub nick_end : (ns : List ℕ) (i a b r : ℕ) → a ≡ reach (take_below 256) ns i → b ≡ reach (take_below 65536) ns a → r ≡ reach (take_below 65536) ns b → r ≡ reach (take_item 6) ns i
nick_end ns i a b r ea eb er =
    er ∙ rw (eb, ea)
    (sym (chain ns i (take_below 256) (suffix_below 256) (take_two 65536 65536) (λ p x. nickname_bytes (nickname_from p x)) (take_item 6) (nick_shape (drop i ns))
    ∙ two_reach ns (reach (take_below 256) ns i) 65536 65536))

-- ---- an element

single_end : (n top : ℕ) (ns : List ℕ) (i : ℕ) → reach (via take_one (λ x. ltb x top) (bytes_of n)) ns i ≡ reach (take_below top) ns i
unfolding take_below
single_end n top ns i = reach_as ns i (via take_one (λ x. ltb x top) (λ x. x)) (via take_one (λ x. ltb x top) (bytes_of n)) (bytes_of n) (sym (via-map take_one (λ x. ltb x top) (λ x. x) (bytes_of n) (drop i ns)))

pub item_8 : (k : ℕ) (ns : List ℕ) (i r : ℕ) → k ≡ 8 → r ≡ reach (take_below 65536) ns i → r ≡ reach (take_item k) ns i
unfolding take_item pick
item_8 k ns i r e f = f ∙ rw e (sym (single_end 2 65536 ns i))

pub item_23 : (k : ℕ) (ns : List ℕ) (i r : ℕ) → (k ≡ 6 → ⊥) → (k ≡ 8 → ⊥) → r ≡ reach (take_below 281474976710656) ns i → r ≡ reach (take_item k) ns i
unfolding take_item pick
item_23 k ns i r a b f = f ∙ rw (ne_eqb k 6 a, ne_eqb k 8 b) (sym (single_end 6 281474976710656 ns i))

-- ---- what takers leave

suffix_pick : {A : Type 0} (c : Bool) (p q : Taker A) → Suffix p → Suffix q → Suffix (pick c p q)
unfolding pick
suffix_pick true p q a b = a
suffix_pick false p q a b = b

suffix_nickname : Suffix take_nickname
unfolding take_nickname
suffix_nickname = suffix_then take_one _ suffix_one (λ p. suffix_then take_one _ suffix_one (λ r. suffix_then take_one _ suffix_one (λ n. suffix_taken _)))

suffix_parameters : Suffix take_parameters
unfolding take_parameters
suffix_parameters = suffix_then take_one _ suffix_one (λ h. suffix_then take_one _ suffix_one (λ f. suffix_taken _))

suffix_label : Suffix take_label
unfolding take_label
suffix_label = suffix_then take_one _ suffix_one (λ p. suffix_then take_one _ suffix_one (λ r. suffix_then take_one _ suffix_one (λ n. suffix_taken _)))

pub suffix_item : (k : ℕ) → Suffix (take_item k)
unfolding take_item
suffix_item k =
    suffix_pick (eqb k 6) _ _ (suffix_via take_nickname nickname_good nickname_bytes suffix_nickname)
    (suffix_pick (eqb k 8) _ _ (suffix_via take_one (within 2) (bytes_of 2) suffix_one) (suffix_via take_one (within 6) (bytes_of 6) suffix_one))

suffix_head : (k : ℕ) → Suffix (take_head k)
unfolding take_head
suffix_head k =
    suffix_pick (eqb k 22) _ _ (suffix_via take_parameters parameters_good parameters_bytes suffix_parameters)
    (suffix_pick (eqb k 6) _ _ (suffix_taken [])
    (suffix_pick (eqb k 8) _ _ (suffix_via take_one (within 2) (bytes_of 2) suffix_one) (suffix_via take_label label_good label_bytes suffix_label)))

-- ---- a loop over many

module _ {A : Type 0} (p : Taker A) (s : Suffix p) (ns : List ℕ) (i m : ℕ) where
  module _ (j at : ℕ) (inv : reach (take_many p (m - j)) ns at ≡ reach (take_many p m) ns i) where
    pub many_next : j < m → (e : ℕ) → e ≡ reach p ns at → reach (take_many p (m - (j + 1))) ns e ≡ reach (take_many p m) ns i
    many_next h e f =
        let k : m - j ≡ suc (m - (j + 1)) = omega arith in
        rw f (sym (reach_next p s ns (m - (j + 1)) at) ∙ ap (λ (n : ℕ). reach (take_many p n) ns at) (sym k) ∙ inv)

    pub many_over : (n : ℕ) → n ≡ length ns → n < at → n + 1 ≡ reach (take_many p m) ns i
    many_over n en h = let o = reach_over (take_many p (m - j)) ns at (omega arith) in omega arith

    pub many_done : m ≤ j → (n : ℕ) → n ≡ length ns → at ≤ n → at ≡ reach (take_many p m) ns i
    many_done h n en g =
        let z : m - j ≡ 0 = omega arith in
        sym (reach_none p s ns at (omega arith)) ∙ ap (λ (k : ℕ). reach (take_many p k) ns at) (sym z) ∙ inv

-- ---- the list of an entry

empty_at : (ns : List ℕ) (i : ℕ) → length ns ≤ i → drop i ns ≡ []
empty_at ns i h = none (drop i ns) (let d = length-drop i ns in omega arith)
  where
    none : (l : List ℕ) → length l ≤ 0 → l ≡ []
    none [] h = refl
    none (x ∷ l) h = absurd (omega arith)

-- a taker that takes nothing from nothing
pub past_end : {A : Type 0} (p : Taker A) (ns : List ℕ) (i n : ℕ) → end_in ns (p []) ≡ 1 + length ns → n ≡ length ns → n ≤ i → n + 1 ≡ reach p ns i
past_end p ns i n e en h = go (leb i (length ns)) refl
  where
    go : (c : Bool) → leb i (length ns) ≡ c → n + 1 ≡ reach p ns i
    go true f =
        let g = leb-true i (length ns) f in
        let a = reach_in p ns i g ∙ ap (λ (l : List ℕ). end_in ns (p l)) (empty_at ns i (omega arith)) ∙ e in
        omega arith
    go false f = let a = reach_over p ns i (leb-false i (length ns) f) in omega arith

module _ (k : ℕ) (ns : List ℕ) (i n : ℕ) (en : n ≡ length ns) where
  pub list_none : n ≤ i → n + 1 ≡ reach (take_list k) ns i
  unfolding take_list then take_one and_then
  list_none h = past_end (take_list k) ns i n refl en h

  module _ (more : i < n) (m : ℕ) (em : m ≡ get_or ns i 0) (t : ℕ) (et : t ≡ most_of k) where
    pub list_over : t < m → n + 1 ≡ reach (take_list k) ns i
    unfolding take_list then take_one and_then check
    list_over h = sym (reach_in (take_list k) ns i (omega arith) ∙ rw (here ns i (omega arith), ← em, lt-leb m (most_of k) (omega arith)) (omega arith))

    pub list_on : m ≤ t → (r : ℕ) → r ≡ reach (take_many (take_item k) m) ns (i + 1) → r ≡ reach (take_list k) ns i
    unfolding take_list then take_one and_then check
    list_on h r e =
        e ∙ reach_in (take_many (take_item k) m) ns (i + 1) (omega arith)
        ∙ sym (reach_in (take_list k) ns i (omega arith) ∙ rw (here ns i (omega arith), ← em, le-leb m (most_of k) (omega arith)) (value_lost ns (take_many (take_item k) m (drop (i + 1) ns)) (flat_map (λ (b : List ℕ). b))))

-- ---- Smart-Parameters

params_is : (l : List ℕ) → take_head 22 l ≡ and_then (take_one l) λ t. Pair (λ n. ltb n 65536) (λ n. n) take_one only_one (λ n. ltb n 65536) (λ n. n) (λ x y. parameters_bytes (record { holding = x; flags = y })) t.value (take_one t.rest)
unfolding take_head pick via take_parameters then Pair parameters_good
params_is l = then-then (take_one l) _ _ ∙ then_same (take_one l) _ _ (λ t. then-then (take_one t.rest) _ _ ∙ then_same (take_one t.rest) _ _ (λ u. got_then _ _))

params_shape : (l : List ℕ) → take_head 22 l ≡ and_then (take_below 65536 l) λ s. and_then (take_below 65536 s.rest) λ u. taken (parameters_bytes (record { holding = s.value; flags = u.value })) u.rest
unfolding take_below
params_shape l = sym (pair_at_lem (λ n. ltb n 65536) (λ n. n) take_one only_one (λ n. ltb n 65536) (λ n. n) (λ x y. parameters_bytes (record { holding = x; flags = y })) take_one l (take_head 22 l) (params_is l))

pub params_end : (ns : List ℕ) (i a r : ℕ) → a ≡ reach (take_below 65536) ns i → r ≡ reach (take_below 65536) ns a → r ≡ reach (take_head 22) ns i
params_end ns i a r ea er = er ∙ rw ea (sym (chain ns i (take_below 65536) (suffix_below 65536) (take_below 65536) (λ x y. parameters_bytes (record { holding = x; flags = y })) (take_head 22) (params_shape (drop i ns))))

-- ---- F, M and the label

leb-one : (n : ℕ) → leb n 1 ≡ ltb n 2
leb-one n = go (leb n 1) refl
  where
    go : (c : Bool) → leb n 1 ≡ c → c ≡ ltb n 2
    go true e = let h = leb-true n 1 e in sym (lt-ltb n 2 (omega arith))
    go false e = let h = leb-false n 1 e in sym (le-ltb n 2 (omega arith))

abbrev label_from : ℕ → TwoNumbers → Label
label_from f x = record { fine = f; multihomed = x.left; number = x.right }

label_is : (top a : ℕ) (r : List ℕ) → top ≡ label_top a → take_head 23 (a ∷ r) ≡ and_then (take_one (a ∷ r)) λ t. Pair (λ n. ltb n 2) (λ n. n) take_pair only_pair (pair_below 2 top) (λ x. x) (λ f x. label_bytes (label_from f x)) t.value (take_pair t.rest)
unfolding take_head pick via take_label take_pair take_one then and_then Pair label_good pair_below
label_is top a r e = second (take_one r)
  where
    second : (z : Outcome (Taken ℕ))
        → and_then (and_then z λ u. and_then (take_one u.rest) λ w. taken (label_from a (pair_of u.value w.value)) w.rest) (λ x. check (label_good x.value) HelloMalformed (taken (label_bytes x.value) x.rest))
        ≡ and_then (and_then z λ u. and_then (take_one u.rest) λ w. taken (pair_of u.value w.value) w.rest) (λ x. check (both (ltb a 2) (pair_below 2 top x.value)) HelloMalformed (taken (label_bytes (label_from a x.value)) x.rest))
    second z = then-then z _ _ ∙ then_same z _ _ (λ u. then-then (take_one u.rest) _ _ ∙ then_same (take_one u.rest) _ _ (λ w. rw (leb-one a, leb-one u.value, ← e)) ∙ sym (then-then (take_one u.rest) _ _)) ∙ sym (then-then z _ _)

label_shape : (top a : ℕ) (r : List ℕ) → top ≡ label_top a → take_head 23 (a ∷ r) ≡ and_then (take_below 2 (a ∷ r)) λ s. and_then (take_two 2 top s.rest) λ u. taken (label_bytes (label_from s.value u.value)) u.rest
unfolding take_below take_two
label_shape top a r e = sym (pair_at_lem (λ n. ltb n 2) (λ n. n) take_pair only_pair (pair_below 2 top) (λ x. x) (λ f x. label_bytes (label_from f x)) take_one (a ∷ r) (take_head 23 (a ∷ r)) (label_is top a r e))

module _ (ns : List ℕ) (i n : ℕ) (en : n ≡ length ns) where
  pub label_none : n ≤ i → n + 1 ≡ reach (take_head 23) ns i
  unfolding take_head pick via take_label then take_one and_then
  label_none h = past_end (take_head 23) ns i n refl en h

  pub label_on : i < n → (f : ℕ) → f ≡ get_or ns i 0 → (top : ℕ) → top ≡ label_top f → (a b r : ℕ) → a ≡ reach (take_below 2) ns i → b ≡ reach (take_below 2) ns a → r ≡ reach (take_below top) ns b → r ≡ reach (take_head 23) ns i
  label_on h f ef top et a b r ea eb er =
      let e = here ns i (omega arith) in
      er ∙ rw (eb, ea)
      (sym (chain ns i (take_below 2) (suffix_below 2) (take_two 2 top) (λ f x. label_bytes (label_from f x)) (take_head 23) (shape e)
      ∙ two_reach ns (reach (take_below 2) ns i) 2 top))
    where
      shape : drop i ns ≡ get_or ns i 0 ∷ drop (i + 1) ns → take_head 23 (drop i ns) ≡ and_then (take_below 2 (drop i ns)) λ s. and_then (take_two 2 top s.rest) λ u. taken (label_bytes (label_from s.value u.value)) u.rest
      shape e = rw e (label_shape top (get_or ns i 0) (drop (i + 1) ns) (et ∙ ap label_top ef))

pub top_fine : (f : ℕ) → f ≡ 1 → 16777216 ≡ label_top f
unfolding pick
top_fine f e = rw (eq-eqb f 1 e)

pub top_vlan : (f : ℕ) → (f ≡ 1 → ⊥) → 4096 ≡ label_top f
unfolding pick
top_vlan f d = rw (ne_eqb f 1 d)

-- ---- the head of an entry, and an entry

module _ (k : ℕ) (ns : List ℕ) (i : ℕ) where
  pub head_6 : (k ≡ 22 → ⊥) → k ≡ 6 → (n : ℕ) → n ≡ length ns → i ≤ n → i ≡ reach (take_head k) ns i
  unfolding take_head pick
  head_6 d e n en h =
      let l = length-drop i ns in
      sym (reach_in (take_head k) ns i (omega arith) ∙ rw e (omega arith))

  pub head_8 : (k ≡ 22 → ⊥) → (k ≡ 6 → ⊥) → k ≡ 8 → (r : ℕ) → r ≡ reach (take_below 65536) ns i → r ≡ reach (take_head k) ns i
  unfolding take_head pick
  head_8 a b e r f = f ∙ rw e (sym (single_end 2 65536 ns i))

  pub entry_22 : k ≡ 22 → (h : ℕ) → h ≡ reach (take_head k) ns i → h ≡ reach (take_sub k) ns i
  unfolding take_sub pick then
  entry_22 e h f = f ∙ sym (reach_as ns i (take_head k) (take_sub k) (λ v. record { holder = holder_for k; kind = k; value = v }) (rw (eq-eqb k 22 e)))

  pub entry_on : (k ≡ 22 → ⊥) → (h : ℕ) → h ≡ reach (take_head k) ns i → (r : ℕ) → r ≡ reach (take_list k) ns h → r ≡ reach (take_sub k) ns i
  unfolding take_sub pick then
  entry_on d h f r e = e ∙ rw f (sym (chain ns i (take_head k) (suffix_head k) (take_list k) (λ v b. record { holder = holder_for k; kind = k; value = v ++ b }) (take_sub k) (rw (ne_eqb k 22 d))))

-- ---- sections

suffix_rest : {A B : Type 0} (b : Bool) (q : Taker A) (f : A → B) → Suffix q → Suffix (λ r. check b HelloMalformed (and_then (q r) λ t. taken (f t.value) t.rest))
suffix_rest b q f s l t e =
    let a = check_got b HelloMalformed _ t e in
    let c = then_got (q l) _ t a.1 in
    rw (ap (λ (x : Taken _). x.rest) (sym (got_got (record { value = f c.0.value; rest = c.0.rest }) t c.2))) (s l c.0 c.1)

suffix_list : (k : ℕ) → Suffix (take_list k)
unfolding take_list
suffix_list k = suffix_then take_one _ suffix_one (λ m. suffix_rest (leb m (most_of k)) (take_many (take_item k) m) (flat_map (λ (b : List ℕ). b)) (suffix_many (take_item k) (suffix_item k) m))

pub suffix_sub : (k : ℕ) → Suffix (take_sub k)
unfolding take_sub
suffix_sub k =
    suffix_pick (eqb k 22) _ _ (suffix_then (take_head k) _ (suffix_head k) (λ h. suffix_taken _))
    (suffix_then (take_head k) _ (suffix_head k) (λ h. suffix_then (take_list k) _ (suffix_list k) (λ b. suffix_taken _)))

module _ (k : ℕ) (ns : List ℕ) (i n : ℕ) (en : n ≡ length ns) where
  pub section_none : n ≤ i → n + 1 ≡ reach (take_counted (take_sub k)) ns i
  unfolding take_counted then take_one and_then
  section_none h = past_end (take_counted (take_sub k)) ns i n refl en h

  pub section_on : i < n → (m : ℕ) → m ≡ get_or ns i 0 → (r : ℕ) → r ≡ reach (take_many (take_sub k) m) ns (i + 1) → r ≡ reach (take_counted (take_sub k)) ns i
  unfolding take_counted then take_one and_then
  section_on h m em r e =
      e ∙ reach_in (take_many (take_sub k) m) ns (i + 1) (omega arith)
      ∙ sym (reach_in (take_counted (take_sub k)) ns i (omega arith) ∙ rw (here ns i (omega arith), ← em))

both-reach : (p q : Taker (List Sub)) → Suffix p → (ns : List ℕ) (i : ℕ) → reach (take_both p q) ns i ≡ reach q ns (reach p ns i)
unfolding take_both then
both-reach p q s ns i = chain ns i p s q (λ (a b : List Sub). a ++ b) (take_both p q) refl

pub subs_end : (ns : List ℕ) (i a b c d : ℕ) → a ≡ reach (take_counted (take_sub 22)) ns i → b ≡ reach (take_counted (take_sub 6)) ns a → c ≡ reach (take_counted (take_sub 8)) ns b → d ≡ reach (take_counted (take_sub 23)) ns c → d ≡ reach take_subs ns i
unfolding take_subs
subs_end ns i a b c d ea eb ec ed =
    ed ∙ rw (ec, eb, ea)
    (sym (both-reach _ _ (suffix_counted (take_sub 22) (suffix_sub 22)) ns i
    ∙ both-reach _ _ (suffix_counted (take_sub 6) (suffix_sub 6)) ns _
    ∙ both-reach _ _ (suffix_counted (take_sub 8) (suffix_sub 8)) ns _))
