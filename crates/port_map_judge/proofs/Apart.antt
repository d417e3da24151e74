-- Labels by sorted keys, of which two neighbours tell whether a label stands twice.
-- Assumes nothing.
use Prim.{tt}
use Prim.Native.Nat.{ℕ, zero, suc, ◌+◌, ◌-◌, ◌*◌, ◌/◌, ◌%◌, ◌≤◌, ◌<◌}
use native.Mathlib.Omega.{arith}
use native.Mathlib.Decide.{ℕ_discrete}
use mathlib.Core.Bool.{Bool, true, false, not, ◌&&◌}
use mathlib.Core.List.{List, [], ◌∷◌}
use mathlib.Core.Path.{◌≡◌, refl, sym, ap, ◌∙◌, subst}
use lib.Dec.{eqb}
use lib.ListN.{length, take, drop, get_or, set, length-set, drop_of_length-le, replicate, length-replicate}
use lib.Seq.{length-take-le, drop-cons, drop-set-lt, get_or-set_same}
use borrow.Author.Tests.{eq-eqb, eqb-true, eqb-false, le-leb, lt-leb, not-true}
use Rattle.numbers.specs.Tests.{both, either, any_of}
use Rattle.numbers.specs.Ranges.{last_fine}
use Rattle.flush_sort.specs.Sorting.{All, Sorted, SortOf}
use Rattle.port_map.specs.Maps.{pair_bytes, good_once, label_of, fine_good}
use Rattle.port_map.specs.declared.CampusLabel.{CampusLabel}
use Rattle.port_map.proofs.Steps.{pairs_done, pairs_at}
use Rattle.port_map_search.specs.Meaning.{pair_at}
use Rattle.port_map_judge.specs.Meaning.{labels_in}
use Rattle.port_map_judge.specs.Apart.{most_keys, keys_of, Apart, Parted, Keyed}
use Rattle.port_map_judge.proofs.Laws.{once_at, once_from}

never : {C : Type 0} → false ≡ true → C
never e = absurd (let z : ◌≡◌ {A = ℕ} 0 1 = cc in omega arith)

-- ---- a number in a list

first_in : (x : ℕ) (l : List ℕ) → any_of (eqb x) (x ∷ l) ≡ true
unfolding any_of either
first_in x l = rw (eq-eqb x x refl)

later_in : (x y : ℕ) (l : List ℕ) → any_of (eqb x) l ≡ true → any_of (eqb x) (y ∷ l) ≡ true
unfolding any_of either
later_in x y l h = go (eqb x y)
  where
    go : (c : Bool) → either c (any_of (eqb x) l) ≡ true
    go true = refl
    go false = h

-- it is the first, or stands later
stands : {C : Type 0} (x y : ℕ) (l : List ℕ) → any_of (eqb x) (y ∷ l) ≡ true → (x ≡ y → C) → (any_of (eqb x) l ≡ true → C) → C
unfolding any_of either
stands {C} x y l h f g = go (eqb x y) refl h
  where
    go : (c : Bool) → eqb x y ≡ c → either c (any_of (eqb x) l) ≡ true → C
    go true e k = f (eqb-true x y e)
    go false e k = g k

in_none : {C : Type 0} (x : ℕ) → any_of (eqb x) [] ≡ true → C
unfolding any_of
in_none x h = never h

all_in : (P : ℕ → Type 0) (l : List ℕ) (x : ℕ) → All P l → any_of (eqb x) l ≡ true → P x
unfolding All
all_in P [] x a h = in_none x h
all_in P (y ∷ l) x a h = stands x y l h (λ e. subst P (sym e) a.0) (λ k. all_in P l x a.1 k)

not_in : (x : ℕ) (l : List ℕ) → (any_of (eqb x) l ≡ true → ⊥) → any_of (eqb x) l ≡ false
not_in x l f = go (any_of (eqb x) l) refl
  where
    go : (c : Bool) → any_of (eqb x) l ≡ c → c ≡ false
    go true e = absurd (f e)
    go false e = refl

-- ---- once, in a list

once_cons : (x : ℕ) (l : List ℕ) → x ≤ last_fine → (any_of (eqb x) l ≡ true → ⊥) → good_once fine_good l ≡ true → good_once fine_good (x ∷ l) ≡ true
unfolding good_once both
once_cons x l h f g = rw (le-leb x last_fine h, not_in x l f, g)

both-parts : (a b c : Bool) → both a (both (not b) c) ≡ true → (b ≡ false) × (c ≡ true)
unfolding both
both-parts true true c h = never h
both-parts true false c h = (refl, h)
both-parts false b c h = never h

once_tail : (x : ℕ) (l : List ℕ) → good_once fine_good (x ∷ l) ≡ true → (any_of (eqb x) l ≡ false) × (good_once fine_good l ≡ true)
unfolding good_once
once_tail x l h = both-parts (fine_good x) (any_of (eqb x) l) (good_once fine_good l) h

-- ---- keys of labels

-- the label of a key stands in the list
key_label : (i : ℕ) (l : List ℕ) (a : ℕ) → i + length l ≤ most_keys → any_of (eqb a) (keys_of i l) ≡ true → any_of (eqb (a / 4096)) l ≡ true
unfolding keys_of
key_label i [] a h k = in_none a k
key_label i (x ∷ l) a h k =
    stands a (x * 4096 + i) (keys_of (suc i) l) k
    (λ e. let q : a / 4096 ≡ x = omega arith in rw q (first_in x l))
    (λ m. later_in (a / 4096) x l (key_label (suc i) l a (omega arith) m))

-- a label of the list has a key, and its number is not below i
label_key : {C : Type 0} (i : ℕ) (l : List ℕ) (x : ℕ) → i + length l ≤ most_keys → any_of (eqb x) l ≡ true → ((j : ℕ) → i ≤ j → j < most_keys → any_of (eqb (x * 4096 + j)) (keys_of i l) ≡ true → C) → C
unfolding keys_of
label_key i [] x h k f = in_none x k
label_key i (y ∷ l) x h k f =
    stands x y l k
    (λ e. f i (omega arith) (omega arith) (rw e (first_in (y * 4096 + i) (keys_of (suc i) l))))
    (λ m. label_key (suc i) l x (omega arith) m (λ j a b c. f j (omega arith) b (later_in (x * 4096 + j) (y * 4096 + i) (keys_of (suc i) l) c)))

apart_once : (i : ℕ) (l : List ℕ) → i + length l ≤ most_keys → All (λ x. x ≤ last_fine) l → Apart (keys_of i l) → good_once fine_good l ≡ true
unfolding keys_of All good_once
apart_once i [] h a k = refl
apart_once i (x ∷ l) h a k =
    once_cons x l a.0
    (λ e. label_key (suc i) l x (omega arith) e (λ j b c d. absurd (
    let q : (x * 4096 + i) / 4096 ≡ (x * 4096 + j) / 4096 = omega arith in
    let z = k (x * 4096 + i) (x * 4096 + j) (first_in (x * 4096 + i) (keys_of (suc i) l)) (later_in (x * 4096 + j) (x * 4096 + i) (keys_of (suc i) l) d) q in
    omega arith)))
    (apart_once (suc i) l (omega arith) a.1 (λ c d p q. k c d (later_in c (x * 4096 + i) (keys_of (suc i) l) p) (later_in d (x * 4096 + i) (keys_of (suc i) l) q)))

once_apart : (i : ℕ) (l : List ℕ) → i + length l ≤ most_keys → good_once fine_good l ≡ true → Apart (keys_of i l)
unfolding keys_of
once_apart i [] h g a b p q e = in_none a p
once_apart i (x ∷ l) h g a b p q e =
    let t = once_tail x l g in
    let ks = keys_of (suc i) l in
    let other : (c d : ℕ) → c ≡ x * 4096 + i → any_of (eqb d) ks ≡ true → c / 4096 ≡ d / 4096 → c ≡ d =
    (λ c d s m f.
    let r : d / 4096 ≡ x = omega arith in
    never (sym t.0 ∙ (rw r at (key_label (suc i) l d (omega arith) m)))) in
    stands a (x * 4096 + i) ks p
    (λ u. stands b (x * 4096 + i) ks q (λ v. u ∙ sym v) (λ v. other a b u v e))
    (λ u. stands b (x * 4096 + i) ks q (λ v. sym (other b a v u (sym e))) (λ v. once_apart (suc i) l (omega arith) t.1 a b u v e))

-- ---- neighbours of a list in order

-- of two neighbours before place i that are keys of one label both are one
pub record Near (l : List ℕ) (i : ℕ) : Type 0 where
  pub some : 1 ≤ i
  pub each : (j : ℕ) → suc j < i → get_or l j 0 / 4096 ≡ get_or l (suc j) 0 / 4096 → get_or l j 0 ≡ get_or l (suc j) 0

near_apart : (l : List ℕ) → Sorted l → ((j : ℕ) → suc j < length l → get_or l j 0 / 4096 ≡ get_or l (suc j) 0 / 4096 → get_or l j 0 ≡ get_or l (suc j) 0) → Apart l
unfolding Sorted All
near_apart [] s n a b p q e = in_none a p
near_apart (x ∷ []) s n a b p q e = stands a x [] p (λ u. stands b x [] q (λ v. u ∙ sym v) (λ v. in_none b v)) (λ u. in_none a u)
near_apart (x ∷ y ∷ l) s n a b p q e =
    let rest : Apart (y ∷ l) = near_apart (y ∷ l) s.1 (λ j h f. n (suc j) (omega arith) f) in
    let other : (c d : ℕ) → c ≡ x → any_of (eqb d) (y ∷ l) ≡ true → c / 4096 ≡ d / 4096 → c ≡ d =
    (λ c d z m f.
    let yd : y ≤ d = stands d y l m (λ u. omega arith) (λ u. all_in (λ w. y ≤ w) l d s.1.0 u) in
    let xy : x ≤ y = s.0.0 in
    let g : x ≡ y = n 0 (omega arith) (omega arith) in
    let k : y ≡ d = rest y d (first_in y l) m (omega arith) in
    z ∙ g ∙ k) in
    stands a x (y ∷ l) p
    (λ u. stands b x (y ∷ l) q (λ v. u ∙ sym v) (λ v. other a b u v e))
    (λ u. stands b x (y ∷ l) q (λ v. sym (other b a v u (sym e))) (λ v. rest a b u v e))

at_in : (l : List ℕ) (j : ℕ) → j < length l → any_of (eqb (get_or l j 0)) l ≡ true
at_in [] j h = absurd (omega arith)
at_in (x ∷ l) zero h = first_in x l
at_in (x ∷ l) (suc j) h = later_in (get_or l j 0) x l (at_in l j (omega arith))

pub near_start : (l : List ℕ) → Near l 1
near_start l = record { some = omega arith; each = λ j h. absurd (omega arith) }

and_parts : (a b : Bool) → (a && b) ≡ true → (a ≡ true) × (b ≡ true)
and_parts true true h = (refl, refl)
and_parts true false h = never h
and_parts false b h = never h

module _ (l : List ℕ) (i : ℕ) (n : Near l i) where
  pub near_done : Sorted l → length l ≤ i → Parted l true
  near_done s h = record { yes = λ t. near_apart l s (λ j k. n.each j (omega arith)); no = λ t. never (sym t) }

  module _ (h : i < length l) where
    pub near_bad : (eqb (get_or l (i - 1) 0 / 4096) (get_or l i 0 / 4096) && not (eqb (get_or l (i - 1) 0) (get_or l i 0))) ≡ true → Parted l false
    near_bad e =
        let p = and_parts (eqb (get_or l (i - 1) 0 / 4096) (get_or l i 0 / 4096)) (not (eqb (get_or l (i - 1) 0) (get_or l i 0))) e in
        let z = n.some in
        record {
          yes = λ t. never t;
          no = λ t apart.
              eqb-false (get_or l (i - 1) 0) (get_or l i 0) (not-true _ p.1)
              (apart (get_or l (i - 1) 0) (get_or l i 0) (at_in l (i - 1) (omega arith)) (at_in l i h) (eqb-true _ _ p.0));
        }

    one_same : (a b : ℕ) → (eqb (a / 4096) (b / 4096) && not (eqb a b)) ≡ false → a / 4096 ≡ b / 4096 → a ≡ b
    one_same a b e q = go (eqb a b) refl (rw (eq-eqb (a / 4096) (b / 4096) q) at e)
      where
        go : (d : Bool) → eqb a b ≡ d → not d ≡ false → a ≡ b
        go true u v = eqb-true a b u
        go false u v = never (sym v)

    pub near_next : (eqb (get_or l (i - 1) 0 / 4096) (get_or l i 0 / 4096) && not (eqb (get_or l (i - 1) 0) (get_or l i 0))) ≡ false → Near l (i + 1)
    near_next e = record { some = omega arith; each = λ j k. go j k (ℕ_discrete (suc j) i) }
      where
        go : (j : ℕ) → suc j < i + 1 → Dec (suc j ≡ i) → get_or l j 0 / 4096 ≡ get_or l (suc j) 0 / 4096 → get_or l j 0 ≡ get_or l (suc j) 0
        go j k (yes q) =
            let z : j ≡ i - 1 = omega arith in
            rw (q, z) (one_same (get_or l (i - 1) 0) (get_or l i 0) e)
        go j k (no d) = n.each j (omega arith)

-- ---- the label at an offset

abbrev Labels_at : List ℕ → ℕ → ℕ → Type 0
Labels_at m at x = labels_in (drop at m) ≡ x ∷ labels_in (drop (at + pair_bytes) m)

labels_at : (m : List ℕ) (at : ℕ) → at + pair_bytes ≤ length m → (x : CampusLabel) → x ≡ (pair_at m at).label → Labels_at m at x.0
labels_at m at h x e = rw (pairs_at m at h, e)

labels_none : (m : List ℕ) → labels_in (drop (length m) m) ≡ []
labels_none m = rw (pairs_done m (length m) (omega arith))

-- ---- the keys of a map

pub record Making (m k : List ℕ) (i : ℕ) : Type 0 where
  pub fits : length m ≡ pair_bytes * length k
  pub place : i ≤ length k
  pub fine : All (λ x. x ≤ last_fine) (labels_in (drop (pair_bytes * i) m))
  pub made : drop i k ≡ keys_of i (labels_in (drop (pair_bytes * i) m))

pub make_start : (m k : List ℕ) → length m ≡ pair_bytes * length k → Making m k (length k)
unfolding All keys_of
make_start m k h =
    let none : labels_in (drop (pair_bytes * length k) m) ≡ [] = rw (← h) (labels_none m) in
    record { fits = h; place = omega arith; fine = rw none tt; made = rw none (drop_of_length-le k {i = length k} (omega arith)) }

module _ (m k : List ℕ) (i : ℕ) (mk : Making m k i) where
  pub make_in : 0 < i → pair_bytes * (i - 1) + pair_bytes ≤ length m
  make_in some = let f = mk.fits in let p = mk.place in omega arith

  pub make_done : i ≤ 0 → Keyed m k true
  make_done h =
      let z : i ≡ 0 = omega arith in
      record { bad = λ t. never (sym t); fine = λ t. rw z at mk.fine; keys = λ t. rw z at mk.made }

  module _ (some : 0 < i) (x : CampusLabel) (e : x ≡ (pair_at m (pair_bytes * (i - 1))).label) where
    pub make_over : last_fine < x.0 → Keyed m k false
    unfolding both
    make_over h = record {
      bad = λ t. sym (once_from fine_good label_of m (pair_bytes * (i - 1)) (omega arith) (let r = make_in some in omega arith)
          (once_at fine_good label_of m (pair_bytes * (i - 1)) (make_in some) ∙ rw (← e, lt-leb x.0 last_fine h)));
      fine = λ t. never t;
      keys = λ t. never t;
    }

    pub make_next : x.0 ≤ last_fine → Making m (set k (i - 1) (x.0 * 4096 + (i - 1))) (i - 1)
    unfolding All keys_of
    make_next h =
        let f = mk.fits in
        let p = mk.place in
        let v = x.0 * 4096 + (i - 1) in
        let l = length-set k (i - 1) v in
        let back : pair_bytes * (i - 1) + pair_bytes ≡ pair_bytes * i = omega arith in
        let next : suc (i - 1) ≡ i = omega arith in
        let here : labels_in (drop (pair_bytes * (i - 1)) m) ≡ x.0 ∷ labels_in (drop (pair_bytes * i) m) = rw back at (labels_at m (pair_bytes * (i - 1)) (make_in some) x e) in
        record {
          fits = omega arith;
          place = omega arith;
          fine = rw here (h, mk.fine);
          made = drop-cons (set k (i - 1) v) (i - 1) 0 (omega arith)
              ∙ rw (get_or-set_same k (i - 1) v 0 (omega arith), drop-set-lt (suc (i - 1)) k (i - 1) v (omega arith), here, next, mk.made);
        }

-- ---- the answer

length_keys : (i : ℕ) (l : List ℕ) → length (keys_of i l) ≡ length l
unfolding keys_of
length_keys i [] = refl
length_keys i (x ∷ l) = ap suc (length_keys (suc i) l)

module _ (m k : List ℕ) (b : Bool) (keyed : Keyed m k b) where
  pub sorted_bad : b ≡ false → false ≡ good_once fine_good (labels_in m)
  sorted_bad h = keyed.bad h

  module _ (h : b ≡ true) (few : length k ≤ most_keys) (s : List ℕ) (sort : SortOf k s) where
    is_keys : k ≡ keys_of 0 (labels_in m)
    is_keys = keyed.keys h

    few_labels : 0 + length (labels_in m) ≤ most_keys
    few_labels = let l = length_keys 0 (labels_in m) in let q = ap length is_keys in omega arith

    pub sorted_says : (r : Bool) → Parted s r → r ≡ good_once fine_good (labels_in m)
    sorted_says true p =
        let a : Apart k = (λ c d u v e. p.yes refl c d (sym (sort.same (eqb c)) ∙ u) (sym (sort.same (eqb d)) ∙ v) e) in
        sym (apart_once 0 (labels_in m) few_labels (keyed.fine h) (rw is_keys at a))
    sorted_says false p = go (good_once fine_good (labels_in m)) refl
      where
        go : (g : Bool) → good_once fine_good (labels_in m) ≡ g → false ≡ g
        go false e = refl
        go true e =
            let a : Apart k = rw is_keys (once_apart 0 (labels_in m) few_labels e) in
            absurd (p.no refl (λ c d u v f. a c d (sort.same (eqb c) ∙ u) (sort.same (eqb d) ∙ v) f))

-- ---- the areas

module _ (m : List ℕ) (few : length m ≤ pair_bytes * most_keys) where
  pub keys_fit : length m / pair_bytes ≤ length (replicate {A = ℕ} most_keys 0)
  keys_fit = let l = length-replicate {A = ℕ} most_keys 0 in omega arith

  pub keys_lent : length m % pair_bytes ≡ 0 → (k : List ℕ) → k ≡ take (length m / pair_bytes) (replicate {A = ℕ} most_keys 0)
      → (length m ≡ pair_bytes * length k) × ((length k ≤ most_keys) × (length k ≤ length (replicate {A = ℕ} most_keys 0)))
  keys_lent whole k e =
      let l = length-replicate {A = ℕ} most_keys 0 in
      let t = length-take-le (length m / pair_bytes) (replicate {A = ℕ} most_keys 0) keys_fit in
      let q = ap length e in
      (omega arith, (omega arith, omega arith))
