-- An entry that is good, by the numbers at its place: the head, the count, and so many elements of as many numbers each.
-- Assumes nothing.
use Prim.Native.Nat.{ℕ, ◌+◌, ◌-◌, ◌*◌, ◌≤◌}
use mathlib.Core.Bool.{Bool, true, false}
use mathlib.Core.List.{List, [], ◌++◌, flat_map}
use mathlib.Core.Path.{◌≡◌, refl, sym, ap, ◌∙◌}
use native.Mathlib.Omega.{arith}
use lib.Dec.{leb, eqb}
use lib.ListN.{length, drop, get_or, length-drop, length-append}
use borrow.Author.Tests.{ne_eqb, leb-true}
use Rattle.numbers.specs.Tests.{pick}
use Rattle.numbers.specs.Bytes.{bytes_of}
use Rattle.numbers.specs.Result.{check, and_then}
use Rattle.numbers.proofs.Answers.{got_got, then_got, check_got}
use Rattle.numbers.proofs.Bytes.{length-bytes_of}
use Rattle.hello.specs.Pieces.{Sub}
use Rattle.hello.specs.Writing.{within, parameters_good, nickname_good, nickname_bytes}
use Rattle.hello.specs.Area.{Taken, Taker, taken, take_one, then, take_many, take_parameters, take_nickname}
use Rattle.hello_area.specs.Entries.{via, take_label, label_good, label_bytes, parameters_bytes, take_head, take_item, most_of, take_list, holder_for, take_sub, reach, sub_in, sub_at}
use Rattle.hello_entry.specs.Bytes.{parameters_at, nickname_at, label_at, record_at, number_at, run}
use Rattle.hello_entry.proofs.Plain.{Took, Plain, plain_taken, plain_one, plain_then, plain_via, via_good, plain_pick, plain_many, each_run, reach_got}
use Rattle.std.specs.Prelude.{Ok}
use Rattle.numbers.specs.declared.refusals.Refusal.TheVariants.{HelloMalformed}

-- ---- the head

unfoldable pub head_numbers : ℕ → ℕ
head_numbers k = pick (eqb k 22) 2 (pick (eqb k 6) 0 (pick (eqb k 8) 1 3))

unfoldable pub head_at : ℕ → List ℕ → ℕ → List ℕ
head_at k ns i = pick (eqb k 22) (parameters_bytes (parameters_at ns i)) (pick (eqb k 6) [] (pick (eqb k 8) (number_at 2 ns i) (label_bytes (label_at ns i))))

-- a number at a place
plain_num : (ns : List ℕ) (i j : ℕ) → i ≡ j → Plain take_one ns i 1 (get_or ns j 0)
plain_num ns i j e t h g = ap_took e (plain_one ns i t h g)
  where
    ap_took : i ≡ j → Took ns i 1 (get_or ns i 0) t → Took ns i 1 (get_or ns j 0) t
    ap_took e s = rw (sym e) s

plain_parameters : (ns : List ℕ) (i : ℕ) → Plain take_parameters ns i 2 (parameters_at ns i)
unfolding take_parameters parameters_at
plain_parameters ns i = plain_then take_one _ ns i 1 1 2 (get_or ns i 0) _ refl (plain_one ns i) (plain_then take_one _ ns (i + 1) 1 0 1 (get_or ns (i + 1) 0) _ refl (plain_one ns (i + 1)) (plain_taken ns (i + 1 + 1) _))

pub plain_label : (ns : List ℕ) (i : ℕ) → Plain take_label ns i 3 (label_at ns i)
unfolding take_label label_at
plain_label ns i =
    plain_then take_one _ ns i 1 2 3 (get_or ns i 0) _ refl (plain_one ns i)
    (plain_then take_one _ ns (i + 1) 1 1 2 (get_or ns (i + 1) 0) _ refl (plain_one ns (i + 1))
    (plain_then take_one _ ns (i + 1 + 1) 1 0 1 (get_or ns (i + 2) 0) _ refl (plain_num ns (i + 1 + 1) (i + 2) (omega arith)) (plain_taken ns (i + 1 + 1 + 1) _)))

pub plain_head : (k : ℕ) (ns : List ℕ) (i : ℕ) → Plain (take_head k) ns i (head_numbers k) (head_at k ns i)
unfolding take_head head_numbers head_at number_at
plain_head k ns i =
    plain_pick (eqb k 22) _ _ ns i _ _ _ _ (plain_via take_parameters parameters_good parameters_bytes ns i 2 (parameters_at ns i) (plain_parameters ns i))
    (plain_pick (eqb k 6) _ _ ns i _ _ _ _ (plain_taken ns i [])
    (plain_pick (eqb k 8) _ _ ns i _ _ _ _ (plain_via take_one (within 2) (bytes_of 2) ns i 1 (get_or ns i 0) (plain_one ns i)) (plain_via take_label label_good label_bytes ns i 3 (label_at ns i) (plain_label ns i))))

-- ---- an element

unfoldable pub item_numbers : ℕ → ℕ
item_numbers k = pick (eqb k 6) 3 (pick (eqb k 8) 1 1)

unfoldable pub item_at : ℕ → List ℕ → ℕ → List ℕ
item_at k ns i = pick (eqb k 6) (record_at ns i) (pick (eqb k 8) (number_at 2 ns i) (number_at 6 ns i))

pub number_long : (b : ℕ) (ns : List ℕ) (j : ℕ) → length (number_at b ns j) ≡ b
unfolding number_at
number_long b ns j = length-bytes_of b (get_or ns j 0)

pub record_long : (ns : List ℕ) (j : ℕ) → length (record_at ns j) ≡ 5
unfolding record_at nickname_bytes
record_long ns j =
    let n = nickname_at ns j in
    let a = length-append (bytes_of 1 n.priority) (bytes_of 2 n.root ++ bytes_of 2 n.nickname) in
    let b = length-append (bytes_of 2 n.root) (bytes_of 2 n.nickname) in
    let x = length-bytes_of 1 n.priority in
    let y = length-bytes_of 2 n.root in
    let z = length-bytes_of 2 n.nickname in
    omega arith

plain_nickname : (ns : List ℕ) (i : ℕ) → Plain take_nickname ns i 3 (nickname_at ns i)
unfolding take_nickname nickname_at
plain_nickname ns i =
    plain_then take_one _ ns i 1 2 3 (get_or ns i 0) _ refl (plain_one ns i)
    (plain_then take_one _ ns (i + 1) 1 1 2 (get_or ns (i + 1) 0) _ refl (plain_one ns (i + 1))
    (plain_then take_one _ ns (i + 1 + 1) 1 0 1 (get_or ns (i + 2) 0) _ refl (plain_num ns (i + 1 + 1) (i + 2) (omega arith)) (plain_taken ns (i + 1 + 1 + 1) _)))

pub plain_item : (k : ℕ) (ns : List ℕ) (i : ℕ) → Plain (take_item k) ns i (item_numbers k) (item_at k ns i)
unfolding take_item item_numbers item_at record_at number_at
plain_item k ns i =
    plain_pick (eqb k 6) _ _ ns i _ _ _ _ (plain_via take_nickname nickname_good nickname_bytes ns i 3 (nickname_at ns i) (plain_nickname ns i))
    (plain_pick (eqb k 8) _ _ ns i _ _ _ _ (plain_via take_one (within 2) (bytes_of 2) ns i 1 (get_or ns i 0) (plain_one ns i)) (plain_via take_one (within 6) (bytes_of 6) ns i 1 (get_or ns i 0) (plain_one ns i)))

-- ---- the list

pub record Listed (k : ℕ) (ns : List ℕ) (i : ℕ) (t : Taken (List ℕ)) : Type 0 where
  pub few : get_or ns i 0 ≤ most_of k
  pub took : Took ns i (1 + item_numbers k * get_or ns i 0) (run (item_at k ns) (item_numbers k) (i + 1) (get_or ns i 0)) t

pub list_took : (k : ℕ) (ns : List ℕ) (i : ℕ) (t : Taken (List ℕ)) → i ≤ length ns → take_list k (drop i ns) ≡ Ok t → Listed k ns i t
unfolding take_list then
list_took k ns i t h e =
    let m = get_or ns i 0 in
    let w = item_numbers k in
    let a = then_got (take_one (drop i ns)) _ t e in
    let u = plain_one ns i a.0 h a.1 in
    let b = check_got (leb m (most_of k)) HelloMalformed _ t (ap (λ (z : Taken ℕ). check (leb z.value (most_of k)) HelloMalformed (and_then (take_many (take_item k) z.value z.rest) λ s. taken (flat_map (λ (b : List ℕ). b) s.value) s.rest)) (sym u.is) ∙ a.2) in
    let c = then_got (take_many (take_item k) m (drop (i + 1) ns)) _ t b.1 in
    let v = plain_many (take_item k) ns w (item_at k ns) (λ j. plain_item k ns j) m (i + 1) c.0 u.inside c.1 in
    let q = v.inside in
    let j : i + 1 + w * m ≡ i + (1 + w * m) = omega arith in
    record {
      few = leb-true m (most_of k) b.0;
      took = record { inside = omega arith; is = sym (got_got _ t c.2) ∙ ap (λ (z : Taken (List (List ℕ))). record { value = flat_map (λ (b : List ℕ). b) z.value; rest = z.rest }) v.is ∙ ap (λ (y : List ℕ). record { value = y; rest = drop (i + 1 + w * m) ns }) (each_run (item_at k ns) w m (i + 1)) ∙ ap (λ (n : ℕ). record { value = run (item_at k ns) w (i + 1) m; rest = drop n ns }) j };
    }

-- ---- an entry

abbrev pub sub_of : ℕ → List ℕ → Sub
sub_of k v = record { holder = holder_for k; kind = k; value = v }

module _ (k : ℕ) (ns : List ℕ) (i : ℕ) (good : reach (take_sub k) ns i ≤ length ns) where
  ends_at : (w : ℕ) (s : Sub) (t : Taken Sub) → take_sub k (drop i ns) ≡ Ok t → reach (take_sub k) ns i ≡ length ns - length t.rest → Took ns i w s t → (i + w ≤ length ns) × ((reach (take_sub k) ns i ≡ i + w) × (sub_at k ns i ≡ s))
  unfolding sub_at sub_in
  ends_at w s t e f u =
      let q = u.inside in
      let d = length-drop (i + w) ns in
      let r : length t.rest ≡ length (drop (i + w) ns) = ap (λ (z : Taken Sub). length z.rest) u.is in
      (q, (omega arith, ap (sub_in k) e ∙ ap (λ (z : Taken Sub). z.value) u.is))

  -- Smart-Parameters have no list
  pub entry-alone : k ≡ 22 → (i + 2 ≤ length ns) × ((reach (take_sub k) ns i ≡ i + 2) × (sub_at k ns i ≡ sub_of k (parameters_bytes (parameters_at ns i))))
  unfolding take_sub take_head pick
  entry-alone e =
      let g = reach_got (take_sub k) ns i good in
      ends_at 2 _ g.took g.is g.ends (alone g.took g.starts g.is)
    where
      alone : (t : Taken Sub) → i ≤ length ns → take_sub k (drop i ns) ≡ Ok t → Took ns i 2 (sub_of k (parameters_bytes (parameters_at ns i))) t
      alone = rw e (plain_then _ _ ns i 2 0 2 _ _ refl (plain_via take_parameters parameters_good parameters_bytes ns i 2 (parameters_at ns i) (plain_parameters ns i)) (plain_taken ns (i + 2) _))

  pub record Entry : Type 0 where
    pub few : get_or ns (i + head_numbers k) 0 ≤ most_of k
    pub inside : i + (head_numbers k + (1 + item_numbers k * get_or ns (i + head_numbers k) 0)) ≤ length ns
    pub ends : reach (take_sub k) ns i ≡ i + (head_numbers k + (1 + item_numbers k * get_or ns (i + head_numbers k) 0))
    pub is : sub_at k ns i ≡ sub_of k (head_at k ns i ++ run (item_at k ns) (item_numbers k) (i + head_numbers k + 1) (get_or ns (i + head_numbers k) 0))

  pub entry_listed : (k ≡ 22 → ⊥) → Entry
  unfolding take_sub pick then
  entry_listed d =
      let n = head_numbers k in
      let g = reach_got (take_sub k) ns i good in
      let t = g.took in
      let shape : take_sub k (drop i ns) ≡ and_then (take_head k (drop i ns)) λ s. and_then (take_list k s.rest) λ u. taken (sub_of k (s.value ++ u.value)) u.rest = rw (ne_eqb k 22 d) in
      let a = then_got (take_head k (drop i ns)) _ t (sym shape ∙ g.is) in
      let u = plain_head k ns i a.0 g.starts a.1 in
      let b = then_got (take_list k (drop (i + n) ns)) _ t (ap (λ (z : Taken (List ℕ)). and_then (take_list k z.rest) λ w. taken (sub_of k (z.value ++ w.value)) w.rest) (sym u.is) ∙ a.2) in
      let l = list_took k ns (i + n) b.0 u.inside b.1 in
      let v = l.took in
      let q = v.inside in
      let m = get_or ns (i + n) 0 in
      let j : i + n + (1 + item_numbers k * m) ≡ i + (n + (1 + item_numbers k * m)) = omega arith in
      let w : Took ns i (n + (1 + item_numbers k * m)) (sub_of k (head_at k ns i ++ run (item_at k ns) (item_numbers k) (i + n + 1) m)) t =
      record {
        inside = omega arith;
        is = sym (got_got _ t b.2) ∙ ap (λ (z : Taken (List ℕ)). record { value = sub_of k (head_at k ns i ++ z.value); rest = z.rest }) v.is ∙ ap (λ (x : ℕ). record { value = sub_of k (head_at k ns i ++ run (item_at k ns) (item_numbers k) (i + n + 1) m); rest = drop x ns }) j;
      } in
      let r = ends_at _ _ t g.is g.ends w in
      record { few = l.few; inside = r.0; ends = r.1.0; is = r.1.1 }

  -- ---- the tests that it passed

  head_got : (t : Taken (List ℕ)) × ((i ≤ length ns) × (take_head k (drop i ns) ≡ Ok t))
  unfolding take_sub pick then
  head_got =
      let g = reach_got (take_sub k) ns i good in
      go (eqb k 22) g.took g.starts g.is
    where
      go : (c : Bool) (t : Taken Sub) → i ≤ length ns
          → pick c (then (take_head k) λ h. taken (sub_of k h)) (then (take_head k) λ h. then (take_list k) λ b. taken (sub_of k (h ++ b))) (drop i ns) ≡ Ok t
          → (u : Taken (List ℕ)) × ((i ≤ length ns) × (take_head k (drop i ns) ≡ Ok u))
      go true t h e = let a = then_got (take_head k (drop i ns)) _ t e in (a.0, (h, a.1))
      go false t h e = let a = then_got (take_head k (drop i ns)) _ t e in (a.0, (h, a.1))

  module _ (A : Type 0) (p : Taker A) (g : A → Bool) (f : A → List ℕ) (w : ℕ) (x : A) (plain : Plain p ns i w x) where
    head_good : take_head k ≡ via p g f → g x ≡ true
    head_good e = via_good p g f ns i w x plain head_got.0 head_got.1.0 (ap (λ (q : Taker (List ℕ)). q (drop i ns)) (sym e) ∙ head_got.1.1)

  pub label_good_lem : (k ≡ 22 → ⊥) → (k ≡ 6 → ⊥) → (k ≡ 8 → ⊥) → label_good (label_at ns i) ≡ true
  unfolding take_head pick
  label_good_lem d e f = head_good _ take_label label_good label_bytes 3 (label_at ns i) (plain_label ns i) (rw (ne_eqb k 22 d, ne_eqb k 6 e, ne_eqb k 8 f))
