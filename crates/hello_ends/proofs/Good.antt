-- An entry is good where its head, its count and its list are: test by test, as the code makes them.
-- Assumes nothing.
use Prim.Native.Nat.{ℕ, ◌+◌, ◌<◌, ◌≤◌}
use mathlib.Core.Bool.{Bool, true, false}
use mathlib.Core.List.{List}
use mathlib.Core.Path.{◌≡◌, refl, sym, ap, ◌∙◌}
use native.Mathlib.Omega.{arith}
use lib.Dec.{leb, ltb}
use lib.ListN.{length, get_or}
use borrow.Author.Tests.{le-leb, lt-leb, ltb-true, ltb-false}
use Rattle.numbers.specs.Tests.{pick, both}
use Rattle.hello.specs.Area.{take_many}
use Rattle.hello.specs.Writing.{label_top}
use Rattle.hello_area.specs.Entries.{take_head, take_item, most_of, take_list, take_sub, reach}
use Rattle.hello_area.proofs.Places.{reach_over}
use Rattle.hello_ends.specs.Below.{take_below, entry_good}
use Rattle.hello_ends.proofs.Numbers.{below_none, below_good, below_bad}
use Rattle.hello_ends.proofs.Shapes.{list_none, list_over, list_on, params_end, label_none, head_6, head_8, entry_22, entry_on}
use Rattle.hello_ends.proofs.Many.{inside_or, numbers_short, label_short, label_good_lem, label_bad, items_8, items_23}

-- ---- an entry with a list: its head has w numbers, or is past the end

module _ (k : ℕ) (d : k ≡ 22 → ⊥) (ns : List ℕ) (i n w : ℕ) (en : n ≡ length ns) where
  abbrev head : ℕ
  head = reach (take_head k) ns i

  whole : (h : ℕ) → h ≡ head → reach (take_sub k) ns i ≡ reach (take_list k) ns h
  whole h e = sym (entry_on k ns i d h e (reach (take_list k) ns h) refl)

  past : n < reach (take_sub k) ns i → false ≡ entry_good k ns i
  past h = sym (lt-leb (reach (take_sub k) ns i) (length ns) (omega arith))

  head_past : n < head → false ≡ entry_good k ns i
  head_past h =
      let e = whole head refl in
      let o = reach_over (take_list k) ns head (omega arith) in
      past (omega arith)

  -- where the list starts
  list_past : i + w ≡ head → n < reach (take_list k) ns (i + w) → false ≡ entry_good k ns i
  list_past e h = let f = whole (i + w) e in past (omega arith)

  module _ (cases : (P : Type 0) → (i + w ≡ head → P) → (n < head → P) → P) where
    good_short : n < i + w + 1 → false ≡ entry_good k ns i
    good_short h = cases _ (λ e. let l = list_none k ns (i + w) n en (omega arith) in list_past e (omega arith)) head_past

    module _ (more : i + w < n) (m : ℕ) (em : m ≡ get_or ns (i + w) 0) where
      good_many : most_of k < m → false ≡ entry_good k ns i
      good_many h = cases _ (λ e. let l = list_over k ns (i + w) n en more m em (most_of k) refl h in list_past e (omega arith)) head_past

      good_long : m ≤ most_of k → n + 1 ≡ reach (take_many (take_item k) m) ns (i + w + 1) → false ≡ entry_good k ns i
      good_long h f = cases _ (λ e. let l = list_on k ns (i + w) n en more m em (most_of k) refl h (n + 1) f in list_past e (omega arith)) head_past

      good_list : i + w ≡ head → m ≤ most_of k → (r : Bool) → r ≡ leb (reach (take_many (take_item k) m) ns (i + w + 1)) (length ns) → r ≡ entry_good k ns i
      good_list e h r er =
          let l = list_on k ns (i + w) n en more m em (most_of k) refl h (reach (take_many (take_item k) m) ns (i + w + 1)) refl in
          er ∙ ap (λ (x : ℕ). leb x (length ns)) (l ∙ sym (whole (i + w) e))

-- ---- Smart-MACs

abbrev label_test : List ℕ → ℕ → Bool
label_test ns i = both (ltb (get_or ns i 0) 2) (both (ltb (get_or ns (i + 1) 0) 2) (ltb (get_or ns (i + 2) 0) (label_top (get_or ns i 0))))

module _ (ns : List ℕ) (i n : ℕ) (en : n ≡ length ns) where
  no_22 : ◌≡◌ {A = ℕ} 23 22 → ⊥
  no_22 e = omega arith

  label_head : i + 3 ≤ n → label_test ns i ≡ true → i + 3 ≡ reach (take_head 23) ns i
  label_head g e = label_good_lem ns i n en (omega arith) g true refl (get_or ns i 0) (get_or ns (i + 1) 0) (get_or ns (i + 2) 0) (label_top (get_or ns i 0)) (sym e) refl refl refl refl

  label_lost : i + 3 ≤ n → label_test ns i ≡ false → n < reach (take_head 23) ns i
  label_lost g e = let l = label_bad ns i n en (omega arith) g false refl (get_or ns i 0) (get_or ns (i + 1) 0) (get_or ns (i + 2) 0) (label_top (get_or ns i 0)) (sym e) refl refl refl refl in omega arith

  label_cases : (P : Type 0) → (i + 3 ≡ reach (take_head 23) ns i → P) → (n < reach (take_head 23) ns i → P) → P
  label_cases P a b =
      inside_or (i + 3) n P (λ g. test g (label_test ns i) refl)
      (λ g. inside_or n i P (λ q. let l = label_none ns i n en q in b (omega arith)) (λ q. let l = label_short ns i n en q g in b (omega arith)))
    where
      test : i + 3 ≤ n → (c : Bool) → label_test ns i ≡ c → P
      test g true e = a (label_head g e)
      test g false e = b (label_lost g e)

  pub macs_short : n < i + 4 → false ≡ entry_good 23 ns i
  macs_short h = good_short 23 no_22 ns i n 3 en label_cases (omega arith)

  module _ (more : i + 4 ≤ n) (m : ℕ) (em : m ≡ get_or ns (i + 3) 0) where
    pub macs_many : 41 < m → false ≡ entry_good 23 ns i
    unfolding pick
    macs_many h = good_many 23 no_22 ns i n 3 en label_cases (omega arith) m em h

    four : i + 3 + 1 ≡ i + 4
    four = omega arith

    pub macs_long : m ≤ 41 → n < i + 4 + m → false ≡ entry_good 23 ns i
    unfolding pick
    macs_long h g =
        let s = items_23 23 ns m (i + 4) (n + 1) (λ e. omega arith) (λ e. omega arith) (numbers_short ns (i + 4) m 281474976710656 n en g) in
        good_long 23 no_22 ns i n 3 en label_cases (omega arith) m em h (rw four s)

    module _ (r : Bool) (er : r ≡ label_test ns i) where
      pub macs_label : r ≡ false → false ≡ entry_good 23 ns i
      macs_label h = head_past 23 no_22 ns i n 3 en (label_lost (omega arith) (sym er ∙ h))

      pub macs_list : r ≡ true → m ≤ 41 → (s : Bool) → s ≡ leb (reach (take_many (take_below 281474976710656) m) ns (i + 4)) (length ns) → s ≡ entry_good 23 ns i
      unfolding pick
      macs_list h g s es =
          let f = items_23 23 ns m (i + 4) (reach (take_many (take_below 281474976710656) m) ns (i + 4)) (λ e. omega arith) (λ e. omega arith) refl in
          good_list 23 no_22 ns i n 3 en label_cases (omega arith) m em (label_head (omega arith) (sym er ∙ h)) g s (es ∙ rw (four, f))

-- ---- Tree Identifiers

module _ (ns : List ℕ) (i n : ℕ) (en : n ≡ length ns) where
  not_22 : ◌≡◌ {A = ℕ} 8 22 → ⊥
  not_22 e = omega arith

  tree_is : reach (take_below 65536) ns i ≡ reach (take_head 8) ns i
  tree_is = head_8 8 ns i not_22 (λ e. omega arith) refl (reach (take_below 65536) ns i) refl

  tree_head : i < n → (v : ℕ) → v ≡ get_or ns i 0 → v < 65536 → i + 1 ≡ reach (take_head 8) ns i
  tree_head h v ev g = below_good ns i 65536 n en h v ev g ∙ tree_is

  tree_lost : i < n → (v : ℕ) → v ≡ get_or ns i 0 → 65536 ≤ v → n < reach (take_head 8) ns i
  tree_lost h v ev g = let l = below_bad ns i 65536 n en h v ev g in let t = tree_is in omega arith

  tree_cases : (P : Type 0) → (i + 1 ≡ reach (take_head 8) ns i → P) → (n < reach (take_head 8) ns i → P) → P
  tree_cases P a b =
      inside_or n i P (λ q. let l = below_none ns i 65536 n en q in let t = tree_is in b (omega arith))
      (λ q. inside_or 65536 (get_or ns i 0) P (λ g. b (tree_lost q (get_or ns i 0) refl g)) (λ g. a (tree_head q (get_or ns i 0) refl g)))

  pub trees_short : n < i + 2 → false ≡ entry_good 8 ns i
  trees_short h = good_short 8 not_22 ns i n 1 en tree_cases (omega arith)

  module _ (more : i + 2 ≤ n) (m : ℕ) (em : m ≡ get_or ns (i + 1) 0) where
    pub trees_many : 123 < m → false ≡ entry_good 8 ns i
    unfolding pick
    trees_many h = good_many 8 not_22 ns i n 1 en tree_cases (omega arith) m em h

    two : i + 1 + 1 ≡ i + 2
    two = omega arith

    pub trees_long : m ≤ 123 → n < i + 2 + m → false ≡ entry_good 8 ns i
    unfolding pick
    trees_long h g =
        let s = items_8 8 ns m (i + 2) (n + 1) refl (numbers_short ns (i + 2) m 65536 n en g) in
        good_long 8 not_22 ns i n 1 en tree_cases (omega arith) m em h (rw two s)

    module _ (v : ℕ) (ev : v ≡ get_or ns i 0) where
      pub trees_start : 65536 ≤ v → false ≡ entry_good 8 ns i
      trees_start h = head_past 8 not_22 ns i n 1 en (tree_lost (omega arith) v ev h)

      pub trees_list : v < 65536 → m ≤ 123 → (s : Bool) → s ≡ leb (reach (take_many (take_below 65536) m) ns (i + 2)) (length ns) → s ≡ entry_good 8 ns i
      unfolding pick
      trees_list h g s es =
          let f = items_8 8 ns m (i + 2) (reach (take_many (take_below 65536) m) ns (i + 2)) refl refl in
          good_list 8 not_22 ns i n 1 en tree_cases (omega arith) m em (tree_head (omega arith) v ev h) g s (es ∙ rw (two, f))

-- ---- nicknames

module _ (ns : List ℕ) (i n : ℕ) (en : n ≡ length ns) (inside : i ≤ length ns) where
  list_only : (r : ℕ) → r ≡ reach (take_list 6) ns i → r ≡ reach (take_sub 6) ns i
  list_only r e = entry_on 6 ns i (λ e. omega arith) i (head_6 6 ns i (λ e. omega arith) refl n en (omega arith)) r e

  pub nicknames_none : n ≤ i → n + 1 ≡ reach (take_sub 6) ns i
  nicknames_none h = list_only (n + 1) (list_none 6 ns i n en h)

  module _ (more : i < n) (m : ℕ) (em : m ≡ get_or ns i 0) where
    pub nicknames_many : 49 < m → n + 1 ≡ reach (take_sub 6) ns i
    unfolding pick
    nicknames_many h = list_only (n + 1) (list_over 6 ns i n en more m em (most_of 6) refl h)

    pub nicknames_on : m ≤ 49 → (r : ℕ) → r ≡ reach (take_many (take_item 6) m) ns (i + 1) → r ≡ reach (take_sub 6) ns i
    unfolding pick
    nicknames_on h r e = list_only r (list_on 6 ns i n en more m em (most_of 6) refl h r e)

-- ---- Smart-Parameters

module _ (ns : List ℕ) (i n : ℕ) (en : n ≡ length ns) where
  two_is : (a : ℕ) → a ≡ reach (take_below 65536) ns i → reach (take_below 65536) ns a ≡ reach (take_sub 22) ns i
  two_is a ea = entry_22 22 ns i refl (reach (take_below 65536) ns a) (params_end ns i a (reach (take_below 65536) ns a) ea refl)

  lost : (a : ℕ) → a ≡ reach (take_below 65536) ns i → n < reach (take_below 65536) ns a → false ≡ entry_good 22 ns i
  lost a ea h = let e = two_is a ea in sym (lt-leb (reach (take_sub 22) ns i) (length ns) (omega arith))

  -- past the end after the first
  lost_first : n < reach (take_below 65536) ns i → false ≡ entry_good 22 ns i
  lost_first h =
      let o = reach_over (take_below 65536) ns (reach (take_below 65536) ns i) (omega arith) in
      lost (reach (take_below 65536) ns i) refl (omega arith)

  pub parameters_short : n < i + 2 → false ≡ entry_good 22 ns i
  parameters_short h =
      inside_or n i _ (λ q. let l = below_none ns i 65536 n en q in lost_first (omega arith))
      (λ q.
      inside_or 65536 (get_or ns i 0) _ (λ g. let l = below_bad ns i 65536 n en q (get_or ns i 0) refl g in lost_first (omega arith))
      (λ g.
      let l = below_none ns (i + 1) 65536 n en (omega arith) in
      lost (i + 1) (below_good ns i 65536 n en q (get_or ns i 0) refl g) (omega arith)))

  module _ (more : i + 2 ≤ n) (v : ℕ) (ev : v ≡ get_or ns i 0) where
    pub parameters_first : 65536 ≤ v → false ≡ entry_good 22 ns i
    parameters_first h = let l = below_bad ns i 65536 n en (omega arith) v ev h in lost_first (omega arith)

    pub parameters_second : v < 65536 → (u : ℕ) → u ≡ get_or ns (i + 1) 0 → ltb u 65536 ≡ entry_good 22 ns i
    parameters_second h u eu = go (ltb u 65536) refl
      where
        first : i + 1 ≡ reach (take_below 65536) ns i
        first = below_good ns i 65536 n en (omega arith) v ev h

        go : (c : Bool) → ltb u 65536 ≡ c → c ≡ entry_good 22 ns i
        go true e =
            let l = below_good ns (i + 1) 65536 n en (omega arith) u eu (ltb-true u 65536 e) in
            let t = two_is (i + 1) first in
            sym (le-leb (reach (take_sub 22) ns i) (length ns) (omega arith))
        go false e = let l = below_bad ns (i + 1) 65536 n en (omega arith) u eu (ltb-false u 65536 e) in lost (i + 1) first (omega arith)
