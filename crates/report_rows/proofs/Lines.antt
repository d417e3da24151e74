-- Laws of lines: those of a row follow those of the nicknames before it, and none stand between.
-- Assumes nothing.
use Prim.{tt}
use Prim.Native.Nat.{ℕ, zero, suc, ◌+◌, ◌*◌, ◌/◌, ◌<◌, ◌≤◌}
use mathlib.Core.List.{List, [], ◌∷◌, ◌++◌, append-nil}
use mathlib.Core.Path.{◌≡◌, refl, sym, ap, ◌∙◌}
use native.Mathlib.Decide.{ℕ_discrete}
use native.Mathlib.Numerals.{add-one}
use native.Mathlib.Omega.{arith}
use lib.ListN.{length, take, drop, get_or, length-append, drop_of_length-le}
use lib.Seq.{drop-cons}
use Rattle.numbers.specs.Tests.{pick}
use Rattle.flush_sort.specs.Sorting.{All, Sorted}
use Rattle.flush_sort.proofs.Laws.{all_first}
use Rattle.report_tally.specs.Tallies.{tally_unit, tallied}
use Rattle.report_rows.specs.declared.Row.{Row}
use Rattle.report_rows.specs.Rows.{row_unit, row_text, lines_text, RowAt, DoneAt}
use Rattle.report_rows.proofs.Laws.{none_counted, all_map, tallied-cut, sorted_from}

pub no_line : (x l c : ℕ) → l ≡ 0 → c ≡ 0 → row_text x l c ≡ []
unfolding row_text pick
no_line x l c el ec = rw (el, ec)

-- ---- the tallies of a nickname

module _ (v : List ℕ) (i b : ℕ) (done : All (λ t. t / row_unit < b) (take i v)) where
  -- the first i count none of a nickname from b on
  none_before : (y k : ℕ) → b ≤ y → k / 2 ≡ y → tallied k (take i v) ≡ 0
  none_before y k h e = none_counted k (take i v) (all_map (λ t. t / row_unit < b) (λ t. t / tally_unit ≡ k → ⊥) (λ t p z. omega arith) (take i v) done)

  -- nor do the others of one below x
  none_at : (x : ℕ) → All (λ t. x ≤ t / row_unit) (drop i v) → (y k : ℕ) → b ≤ y → y < x → k / 2 ≡ y → tallied k v ≡ 0
  none_at x left y k h g e =
      let a = none_before y k h e in
      let z = none_counted k (drop i v) (all_map (λ t. x ≤ t / row_unit) (λ t. t / tally_unit ≡ k → ⊥) (λ t p q. omega arith) (drop i v) left) in
      let c = tallied-cut k v i in
      omega arith

  -- so there are no lines from b to before x
  pub lines_skip : (x : ℕ) → b ≤ x → All (λ t. x ≤ t / row_unit) (drop i v) → lines_text x v ≡ lines_text b v
  unfolding lines_text
  lines_skip zero h left = let e : b ≡ 0 = omega arith in rw e
  lines_skip (suc x) h left = go (λ g. lines_skip x g (all_map (λ t. suc x ≤ t / row_unit) (λ t. x ≤ t / row_unit) (λ t p. omega arith) (drop i v) left)) (ℕ_discrete b (suc x))
    where
      go : (b ≤ x → lines_text x v ≡ lines_text b v) → Dec (b ≡ suc x) → lines_text x v ++ row_text x (tallied (x * 2) v) (tallied (x * 2 + 1) v) ≡ lines_text b v
      go ih (yes e) = ap (λ (n : ℕ). lines_text n v) (sym e)
      go ih (no e) =
          let l = none_at (suc x) left x (x * 2) (omega arith) (omega arith) (omega arith) in
          let c = none_at (suc x) left x (x * 2 + 1) (omega arith) (omega arith) (omega arith) in
          rw (no_line x (tallied (x * 2) v) (tallied (x * 2 + 1) v) l c) (append-nil (lines_text x v) ∙ ih (omega arith))

  -- past all nicknames, or past all tallies
  pub lines_rest : (n : ℕ) → b ≤ n → All (λ t. n ≤ t / row_unit) (drop i v) → lines_text b v ≡ lines_text n v
  lines_rest n h left = sym (lines_skip n h left)

  pub lines_end : (n : ℕ) → b ≤ n → length v ≤ i → lines_text b v ≡ lines_text n v
  unfolding All
  lines_end n h g = lines_rest n h (rw (drop_of_length-le v {i = i} g) tt)

-- ---- the next row

pub done_none : (v : List ℕ) → DoneAt 0 0 v
unfolding All
done_none v = record { done = tt; left = go v }
  where
    go : (l : List ℕ) → All (λ t. 0 ≤ t / row_unit) l
    go [] = tt
    go (t ∷ l) = (omega arith, go l)

pub none_done : (v : List ℕ) → lines_text 0 v ≡ []
unfolding lines_text
none_done v = refl

module _ (v : List ℕ) (i b : ℕ) (s : Sorted v) (h : i < length v) (d : DoneAt b i v) (r : Row) (row : RowAt v i r) where
  -- its nickname is none of those that are done
  pub row_from : b ≤ r.nickname
  unfolding All
  row_from =
      let left : All (λ t. b ≤ t / row_unit) (get_or v i 0 ∷ drop (suc i) v) = rw (drop-cons v i 0 h) at d.left in
      let first = left.0 in
      let e = row.nickname in
      omega arith

  pub row_left : All (λ t. r.nickname ≤ t / row_unit) (drop i v)
  row_left =
      let e = row.nickname in
      all_map (λ t. get_or v i 0 ≤ t) (λ t. r.nickname ≤ t / row_unit) (λ t p. omega arith) (drop i v) (sorted_from v i s h)

  pub done_next : DoneAt (r.nickname + 1) r.next v
  done_next =
      let f = row.further in
      let e = row.last in
      record {
        done = all_first (λ t. t / row_unit < r.nickname + 1) (λ z w p q. omega arith) v r.next (omega arith) row.within s (omega arith);
        left = row.above;
      }

  counted-all : (k : ℕ) → k / 2 ≡ r.nickname → tallied k (drop i v) ≡ tallied k v
  counted-all k e =
      let c = tallied-cut k v i in
      let a = none_before v i b d.done r.nickname k row_from e in
      omega arith

  pub row_lines : lines_text (r.nickname + 1) v ≡ lines_text b v ++ row_text r.nickname r.learned r.configured
  unfolding lines_text
  row_lines =
      let l : r.learned ≡ tallied (r.nickname * 2) v = row.learned ∙ counted-all (r.nickname * 2) (omega arith) in
      let c : r.configured ≡ tallied (r.nickname * 2 + 1) v = row.configured ∙ counted-all (r.nickname * 2 + 1) (omega arith) in
      rw (add-one r.nickname, l, c) (ap (λ (t : List ℕ). t ++ row_text r.nickname (tallied (r.nickname * 2) v) (tallied (r.nickname * 2 + 1) v)) (lines_skip v i b d.done r.nickname row_from row_left))

-- ---- lengths

pub lines_more : (v : List ℕ) (b n : ℕ) → b ≤ n → length (lines_text b v) ≤ length (lines_text n v)
unfolding lines_text
lines_more v b zero h = let e : b ≡ 0 = omega arith in rw e (omega arith)
lines_more v b (suc n) h = go (λ g. lines_more v b n g) (ℕ_discrete b (suc n))
  where
    go : (b ≤ n → length (lines_text b v) ≤ length (lines_text n v)) → Dec (b ≡ suc n) → length (lines_text b v) ≤ length (lines_text n v ++ row_text n (tallied (n * 2) v) (tallied (n * 2 + 1) v))
    go ih (yes e) = let q = ap (λ (m : ℕ). length (lines_text m v)) e in omega arith
    go ih (no e) =
        let r = ih (omega arith) in
        let l = length-append (lines_text n v) (row_text n (tallied (n * 2) v) (tallied (n * 2 + 1) v)) in
        omega arith
