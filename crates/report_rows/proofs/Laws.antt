-- Laws of rows: the tallies of a nickname stand together, and the lines of those before it are done.
-- Assumes nothing.
use Prim.{tt}
use Prim.Native.Nat.{ℕ, zero, suc, ◌+◌, ◌-◌, ◌*◌, ◌/◌, ◌%◌, ◌<◌, ◌≤◌}
use mathlib.Core.Bool.{Bool, true, false, not, ◌||◌}
use mathlib.Core.List.{List, [], ◌∷◌}
use mathlib.Core.Path.{◌≡◌, refl, sym, ap, ◌∙◌}
use native.Mathlib.Decide.{dec_lt}
use native.Mathlib.Nat.{add-zero}
use native.Mathlib.Numerals.{add-one}
use native.Mathlib.Omega.{arith}
use lib.Dec.{eqb, leb}
use lib.ListN.{length, take, drop, get_or, take-append-drop, length-drop, drop_of_length-le}
use lib.Seq.{drop-cons, get_or-drop, take-length}
use borrow.Author.Tests.{eq-eqb, ne_eqb, eqb-true, eqb-false, leb-false, not-true}
use Rattle.numbers.specs.Tests.{pick}
use Rattle.flush_sort.specs.Sorting.{All, Sorted}
use Rattle.flush_sort.proofs.Laws.{all_at, all_first, take_last}
use Rattle.report.specs.Report.{nickname_end}
use Rattle.report_keys.specs.Keys.{free_key}
use Rattle.report_tally.specs.Tallies.{tally_unit, counted_by, tallied}
use Rattle.report_tally.proofs.Laws.{tallied-append, tallied_last}
use Rattle.report_rows.specs.Rows.{row_unit, RowAt, single_row}

-- ---- what a tally counts

counts_not : (k t : ℕ) → (t / tally_unit ≡ k → ⊥) → counted_by k t ≡ 0
unfolding pick
counts_not k t h = rw (ne_eqb (t / tally_unit) k h)

-- tallies of other keys count nothing of this one
pub none_counted : (k : ℕ) (v : List ℕ) → All (λ t. t / tally_unit ≡ k → ⊥) v → tallied k v ≡ 0
unfolding All tallied
none_counted k [] h = refl
none_counted k (t ∷ v) h = let r = none_counted k v h.1 in let z = counts_not k t h.0 in omega arith

pub all_map : (P Q : ℕ → Type 0) → ((t : ℕ) → P t → Q t) → (v : List ℕ) → All P v → All Q v
unfolding All
all_map P Q f [] h = tt
all_map P Q f (t ∷ v) h = (f t h.0, all_map P Q f v h.1)

pub tallied-cut : (k : ℕ) (v : List ℕ) (i : ℕ) → tallied k v ≡ tallied k (take i v) + tallied k (drop i v)
tallied-cut k v i = ap (tallied k) (sym (take-append-drop i v)) ∙ tallied-append k (take i v) (drop i v)

pub tallied_first : (k : ℕ) (v : List ℕ) (i : ℕ) → i < length v → tallied k (drop i v) ≡ counted_by k (get_or v i 0) + tallied k (drop (i + 1) v)
unfolding tallied
tallied_first k v i h = rw (add-one i, drop-cons v i 0 h)

-- ---- sorted tallies

pub sorted_from : (v : List ℕ) (j : ℕ) → Sorted v → j < length v → All (λ t. get_or v j 0 ≤ t) (drop j v)
unfolding All Sorted
sorted_from [] j s h = absurd (omega arith)
sorted_from (x ∷ v) zero s h = (omega arith, s.0)
sorted_from (x ∷ v) (suc j) s h = sorted_from v j s.1 (omega arith)

pub sorted_pair : (v : List ℕ) (i j : ℕ) → Sorted v → i ≤ j → j < length v → get_or v i 0 ≤ get_or v j 0
sorted_pair v i j s h g =
    let long : length (drop i v) ≡ length v - i = length-drop i v in
    let there : get_or (drop i v) (j - i) 0 ≡ get_or v j 0 = get_or-drop i v (j - i) 0 ∙ ap (λ (n : ℕ). get_or v n 0) (omega arith) in
    let at = all_at (λ t. get_or v i 0 ≤ t) (drop i v) (j - i) (sorted_from v i s (omega arith)) (omega arith) in
    omega arith

all_none : (P : ℕ → Type 0) (v : List ℕ) (j : ℕ) → length v ≤ j → All P (drop j v)
unfolding All
all_none P v j h = rw (drop_of_length-le v {i = j} h) tt

-- ---- a row

-- l and c are what the tallies from place i to before place j count of the nickname x
pub record SoFar (v : List ℕ) (i x l c j : ℕ) : Type 0 where
  pub further : i < j
  pub within : j ≤ length v
  pub last : get_or v (j - 1) 0 / row_unit ≡ x
  pub few : (l ≤ j * tally_unit) × (c ≤ j * tally_unit)
  pub learned : l + tallied (x * 2) (drop j v) ≡ tallied (x * 2) (drop i v)
  pub configured : c + tallied (x * 2 + 1) (drop j v) ≡ tallied (x * 2 + 1) (drop i v)

module _ (v : List ℕ) (i : ℕ) (s : Sorted v) (x : ℕ) (ex : x ≡ get_or v i 0 / row_unit) where
  pub row_start : i < length v → (l c : ℕ) → l ≡ counted_by (get_or v i 0 / row_unit * 2 + 0) (get_or v i 0) → l < tally_unit → c ≡ counted_by (get_or v i 0 / row_unit * 2 + 1) (get_or v i 0) → c < tally_unit → SoFar v i x l c (i + 1)
  row_start h l c el fl ec fc =
      let a : l ≡ counted_by (x * 2) (get_or v i 0) = rw (ex, ← add-zero (get_or v i 0 / row_unit * 2)) el in
      let b : c ≡ counted_by (x * 2 + 1) (get_or v i 0) = rw ex ec in
      let p = tallied_first (x * 2) v i h in
      let q = tallied_first (x * 2 + 1) v i h in
      let here : i + 1 - 1 ≡ i = omega arith in
      record { further = omega arith; within = omega arith; last = rw here (sym ex); few = (omega arith, omega arith); learned = omega arith; configured = omega arith }

  module _ (l c j : ℕ) (so : SoFar v i x l c j) where
    pub row_next : j < length v → (y : ℕ) → y ≡ get_or v j 0 / row_unit → y ≡ x → (m n : ℕ) → m ≡ counted_by (get_or v j 0 / row_unit * 2 + 0) (get_or v j 0) → m < tally_unit → n ≡ counted_by (get_or v j 0 / row_unit * 2 + 1) (get_or v j 0) → n < tally_unit → SoFar v i x (l + m) (c + n) (j + 1)
    row_next h y ey same m n em fm en fn =
        let is : get_or v j 0 / row_unit ≡ x = sym ey ∙ same in
        let a : m ≡ counted_by (x * 2) (get_or v j 0) = rw (is, add-zero (x * 2)) at em in
        let b : n ≡ counted_by (x * 2 + 1) (get_or v j 0) = rw is at en in
        let p = tallied_first (x * 2) v j h in
        let q = tallied_first (x * 2 + 1) v j h in
        let sl = so.learned in
        let sc = so.configured in
        let sf = so.few in
        let fu = so.further in
        let here : j + 1 - 1 ≡ j = omega arith in
        record { further = omega arith; within = omega arith; last = rw here is; few = (omega arith, omega arith); learned = omega arith; configured = omega arith }

    row_of : All (λ t. x + 1 ≤ t / row_unit) (drop j v) → RowAt v i (record { nickname = x; learned = l; configured = c; next = j })
    row_of above =
        let a = none_counted (x * 2) (drop j v) (all_map (λ t. x + 1 ≤ t / row_unit) (λ t. t / tally_unit ≡ x * 2 → ⊥) (λ t p z. omega arith) (drop j v) above) in
        let b = none_counted (x * 2 + 1) (drop j v) (all_map (λ t. x + 1 ≤ t / row_unit) (λ t. t / tally_unit ≡ x * 2 + 1 → ⊥) (λ t p z. omega arith) (drop j v) above) in
        let sl = so.learned in
        let sc = so.configured in
        record { nickname = ex; learned = omega arith; configured = omega arith; further = so.further; within = so.within; last = so.last; above = above }

    pub row_ends : j < length v → (y : ℕ) → y ≡ get_or v j 0 / row_unit → (y ≡ x → ⊥) → RowAt v i (record { nickname = x; learned = l; configured = c; next = j })
    row_ends h y ey other =
        let fu = so.further in
        let up = sorted_pair v i j s (omega arith) h in
        let more : x + 1 ≤ get_or v j 0 / row_unit = go up (dec_lt x y) in
        row_of (all_map (λ t. get_or v j 0 ≤ t) (λ t. x + 1 ≤ t / row_unit) (λ t p. omega arith) (drop j v) (sorted_from v j s h))
      where
        go : get_or v i 0 ≤ get_or v j 0 → Dec (x < y) → x + 1 ≤ get_or v j 0 / row_unit
        go up (yes p) = omega arith
        go up (no p) = absurd (other (omega arith))

    pub row_last : length v ≤ j → RowAt v i (record { nickname = x; learned = l; configured = c; next = j })
    row_last h = row_of (all_none (λ t. x + 1 ≤ t / row_unit) v j h)

-- ---- a row of one tally

pub single_tests : (t : ℕ) → not (eqb (t % row_unit) 1) || leb free_key (t / tally_unit) ≡ false → (t % row_unit ≡ 1) × (t / row_unit < nickname_end)
single_tests t h = go (eqb (t % row_unit) 1) (leb free_key (t / tally_unit)) refl refl h
  where
    go : (a b : Bool) → eqb (t % row_unit) 1 ≡ a → leb free_key (t / tally_unit) ≡ b → not a || b ≡ false → (t % row_unit ≡ 1) × (t / row_unit < nickname_end)
    go false b e f g = let z : ◌≡◌ {A = ℕ} 0 1 = cc in absurd (omega arith)
    go true true e f g = let z : ◌≡◌ {A = ℕ} 0 1 = cc in absurd (omega arith)
    go true false e f g = let one = eqb-true (t % row_unit) 1 e in let few = leb-false free_key (t / tally_unit) f in (omega arith, omega arith)

counts_one : (t : ℕ) → t % row_unit ≡ 1 → 1 ≡ counted_by (t / row_unit * 2 + 0) t
unfolding pick
counts_one t e =
    let key : t / tally_unit ≡ t / row_unit * 2 + 0 = omega arith in
    let count : t % tally_unit ≡ 1 = omega arith in
    rw (eq-eqb (t / tally_unit) (t / row_unit * 2 + 0) key, count)

pub single_row_lem : (v : List ℕ) (i : ℕ) → Sorted v → i + 1 < length v → get_or v i 0 % row_unit ≡ 1 → not (eqb (get_or v (i + 1) 0 / row_unit) (get_or v i 0 / row_unit)) ≡ true → RowAt v i (single_row (get_or v i 0) i)
single_row_lem v i s h one other =
    let t : ℕ = get_or v i 0 in
    let none : 0 ≡ counted_by (get_or v i 0 / row_unit * 2 + 1) (get_or v i 0) = sym (counts_not (get_or v i 0 / row_unit * 2 + 1) (get_or v i 0) (λ z. omega arith)) in
    let start = row_start v i s (get_or v i 0 / row_unit) refl (omega arith) 1 0 (counts_one (get_or v i 0) one) (omega arith) none (omega arith) in
    row_ends v i s (get_or v i 0 / row_unit) refl 1 0 (i + 1) start h (get_or v (i + 1) 0 / row_unit) refl (eqb-false (get_or v (i + 1) 0 / row_unit) (get_or v i 0 / row_unit) (not-true _ other))

-- ---- a key past those of all nicknames

pub times_none : (k : ℕ) (v : List ℕ) → 0 + tallied k (take (length v) v) ≡ tallied k v
times_none k v = rw (take-length v) (omega arith)

module _ (k : ℕ) (v : List ℕ) (i n : ℕ) (so : n + tallied k (take i v) ≡ tallied k v) (some : 0 < i) (within : i ≤ length v) where
  pub times_next : (m : ℕ) → m ≡ counted_by k (get_or v (i - 1) 0) → n + m + tallied k (take (i - 1) v) ≡ tallied k v
  times_next m em =
      let e : tallied k (take i v) ≡ tallied k (take (i - 1) v) + counted_by k (get_or v (i - 1) 0) = rw (take_last v i some within) (tallied-append k (take (i - 1) v) (get_or v (i - 1) 0 ∷ []) ∙ ap (λ (y : ℕ). tallied k (take (i - 1) v) + y) (tallied_last k (get_or v (i - 1) 0))) in
      omega arith

  pub times_end : Sorted v → get_or v (i - 1) 0 / tally_unit < k → n ≡ tallied k v
  times_end s low =
      let all = all_first (λ t. t / tally_unit < k) (λ z w e f. omega arith) v i some within s low in
      let z = none_counted k (take i v) (all_map (λ t. t / tally_unit < k) (λ t. t / tally_unit ≡ k → ⊥) (λ t p q. omega arith) (take i v) all) in
      omega arith

pub times_all : (k : ℕ) (v : List ℕ) (i n : ℕ) → n + tallied k (take i v) ≡ tallied k v → i ≤ 0 → n ≡ tallied k v
unfolding tallied
times_all k v i n so h = let e : i ≡ 0 = omega arith in let z : n + 0 ≡ tallied k v = rw e at so in omega arith
