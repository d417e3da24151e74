-- Many elements of as many numbers each: past the end where the area is too short, else number by number. Three numbers below their limits.
-- Assumes nothing.
use Prim.Native.Nat.{ℕ, zero, suc, ◌+◌, ◌-◌, ◌*◌, ◌^◌, ◌<◌, ◌≤◌}
use mathlib.Core.Bool.{Bool, true, false}
use mathlib.Core.List.{List}
use mathlib.Core.Path.{◌≡◌, refl, sym, ap, ◌∙◌}
use native.Mathlib.Omega.{arith}
use lib.Dec.{leb, ltb}
use lib.ListN.{length, get_or}
use borrow.Author.Tests.{leb-true, leb-false, ltb-true, ltb-false}
use Rattle.numbers.specs.Tests.{both}
use Rattle.numbers.proofs.Truth.{both_true}
use Rattle.hello.specs.Area.{Taker, take_many}
use Rattle.hello.specs.Writing.{label_top}
use Rattle.hello_area.specs.Entries.{numbers_in, take_head, take_item, reach}
use Rattle.hello_area.proofs.Places.{Suffix, reach_over, reach_none, reach_next}
use Rattle.hello_ends.specs.Below.{take_below}
use Rattle.hello_ends.proofs.Numbers.{numbers_length, below_none, below_good, below_bad, suffix_below}
use Rattle.hello_ends.proofs.Shapes.{nick_end, label_on, suffix_item, many_next, many_done, item_8, item_23}

pub inside_or : (k n : ℕ) (P : Type 0) → (k ≤ n → P) → (n < k → P) → P
inside_or k n P a b = go (leb k n) refl
  where
    go : (c : Bool) → leb k n ≡ c → P
    go true e = a (leb-true k n e)
    go false e = b (leb-false k n e)

-- ---- too short

-- where it ends, one that does not refuse has taken w numbers
abbrev Steps : {A : Type 0} → Taker A → List ℕ → ℕ → Type 0
Steps p ns w = (i : ℕ) → reach p ns i ≤ length ns → reach p ns i ≡ i + w

many_short : {A : Type 0} (p : Taker A) (s : Suffix p) (ns : List ℕ) (w : ℕ) → Steps p ns w → (m i : ℕ) → length ns < i + w * m → reach (take_many p m) ns i ≡ 1 + length ns
many_short p s ns w steps zero i h = reach_over (take_many p 0) ns i (omega arith)
many_short p s ns w steps (suc m) i h =
    reach_next p s ns m i
    ∙ inside_or (reach p ns i) (length ns) (reach (take_many p m) ns (reach p ns i) ≡ 1 + length ns)
    (λ g. let e = steps i g in many_short p s ns w steps m (reach p ns i) (omega arith))
    (λ g. reach_over (take_many p m) ns (reach p ns i) g)

below_steps : (ns : List ℕ) (top : ℕ) → Steps (take_below top) ns 1
below_steps ns top i h =
    inside_or (length ns) i (reach (take_below top) ns i ≡ i + 1)
    (λ g. let e = below_none ns i top (length ns) refl g in absurd (omega arith))
    (λ g.
    inside_or top (get_or ns i 0) (reach (take_below top) ns i ≡ i + 1)
    (λ q. let e = below_bad ns i top (length ns) refl g (get_or ns i 0) refl q in absurd (omega arith))
    (λ q. sym (below_good ns i top (length ns) refl g (get_or ns i 0) refl q)))

-- ---- three numbers

abbrev pub three_end : List ℕ → ℕ → ℕ → ℕ → ℕ → ℕ
three_end ns i a b c = reach (take_below c) ns (reach (take_below b) ns (reach (take_below a) ns i))

module _ (ns : List ℕ) (i a b c n : ℕ) (en : n ≡ length ns) where
  over_two : (k : ℕ) → n < k → n + 1 ≡ reach (take_below c) ns (reach (take_below b) ns k)
  over_two k h =
      let x = reach_over (take_below b) ns k (omega arith) in
      let y = reach_over (take_below c) ns (reach (take_below b) ns k) (omega arith) in
      omega arith

  over_one : (k : ℕ) → n < k → n + 1 ≡ reach (take_below c) ns k
  over_one k h = let y = reach_over (take_below c) ns k (omega arith) in omega arith

  three_steps : three_end ns i a b c ≤ n → three_end ns i a b c ≡ i + 3
  three_steps h =
      let x = reach (take_below a) ns i in
      let y = reach (take_below b) ns x in
      inside_or y n (three_end ns i a b c ≡ i + 3)
      (λ g.
      inside_or x n (three_end ns i a b c ≡ i + 3)
      (λ q.
      let ex = below_steps ns a i (omega arith) in
      let ey = below_steps ns b x (omega arith) in
      let ez = below_steps ns c y (omega arith) in
      omega arith)
      (λ q. let e = over_two x q in absurd (omega arith)))
      (λ g. let e = over_one y g in absurd (omega arith))

  pub three_short : n < i + 3 → n + 1 ≡ three_end ns i a b c
  three_short h =
      inside_or (three_end ns i a b c) n (n + 1 ≡ three_end ns i a b c)
      (λ g. let e = three_steps g in absurd (omega arith))
      (λ g. past g)
    where
      ends : (k : ℕ) → reach (take_below c) ns k ≤ 1 + length ns
      ends k =
          inside_or (reach (take_below c) ns k) (length ns) (reach (take_below c) ns k ≤ 1 + length ns) (λ g. omega arith)
          (λ g. top k)
        where
          top : (k : ℕ) → reach (take_below c) ns k ≤ 1 + length ns
          top k =
              inside_or (length ns) k (reach (take_below c) ns k ≤ 1 + length ns)
              (λ q. let e = below_none ns k c (length ns) refl q in omega arith)
              (λ q.
              inside_or c (get_or ns k 0) (reach (take_below c) ns k ≤ 1 + length ns)
              (λ r. let e = below_bad ns k c (length ns) refl q (get_or ns k 0) refl r in omega arith)
              (λ r. let e = below_good ns k c (length ns) refl q (get_or ns k 0) refl r in omega arith))

      past : n < three_end ns i a b c → n + 1 ≡ three_end ns i a b c
      past g = let e = ends (reach (take_below b) ns (reach (take_below a) ns i)) in omega arith

  module _ (inside : i + 3 ≤ n) (x y z : ℕ) (ex : x ≡ get_or ns i 0) (ey : y ≡ get_or ns (i + 1) 0) (ez : z ≡ get_or ns (i + 2) 0) where
    first : x < a → i + 1 ≡ reach (take_below a) ns i
    first h = below_good ns i a n en (omega arith) x ex h

    second : y < b → i + 2 ≡ reach (take_below b) ns (i + 1)
    second h = let e = below_good ns (i + 1) b n en (omega arith) y ey h in omega arith

    pub three_good : (r : Bool) → r ≡ both (ltb x a) (both (ltb y b) (ltb z c)) → r ≡ true → i + 3 ≡ three_end ns i a b c
    three_good r er h =
        let p = both_true (ltb x a) (both (ltb y b) (ltb z c)) (sym er ∙ h) in
        let q = both_true (ltb y b) (ltb z c) p.1 in
        let e = below_good ns (i + 2) c n en (omega arith) z ez (ltb-true z c q.1) in
        let s : i + 3 ≡ reach (take_below c) ns (i + 2) = omega arith in
        rw (← first (ltb-true x a p.0), ← second (ltb-true y b q.0)) s

    pub three_bad : (r : Bool) → r ≡ both (ltb x a) (both (ltb y b) (ltb z c)) → r ≡ false → n + 1 ≡ three_end ns i a b c
    unfolding both
    three_bad r er h = go (ltb x a) (ltb y b) (ltb z c) refl refl refl (sym er ∙ h)
      where
        go : (p q s : Bool) → ltb x a ≡ p → ltb y b ≡ q → ltb z c ≡ s → both p (both q s) ≡ false → n + 1 ≡ three_end ns i a b c
        go true true true u v w t = let o : true ≡ false = t in absurd_bool o
          where
            absurd_bool : true ≡ false → n + 1 ≡ three_end ns i a b c
            absurd_bool o = cc
        go true true false u v w t =
            let e = below_bad ns (i + 2) c n en (omega arith) z ez (ltb-false z c w) in
            rw (← first (ltb-true x a u), ← second (ltb-true y b v)) e
        go true false s u v w t =
            let e = below_bad ns (i + 1) b n en (omega arith) y ey (ltb-false y b v) in
            let f : n < reach (take_below b) ns (i + 1) = omega arith in
            rw (← first (ltb-true x a u)) (over_one (reach (take_below b) ns (i + 1)) f)
        go false q s u v w t =
            let e = below_bad ns i a n en (omega arith) x ex (ltb-false x a u) in
            over_two (reach (take_below a) ns i) (omega arith)

-- ---- so many numbers

reach_top : {A : Type 0} (p : Taker A) (ns : List ℕ) (i n : ℕ) → n ≡ length ns → reach p ns i ≡ 1 + length ns → n + 1 ≡ reach p ns i
reach_top p ns i n en e = omega arith

-- one that is refused refuses all
many_bad : {A : Type 0} (p : Taker A) (s : Suffix p) (ns : List ℕ) (i m j at n : ℕ) → n ≡ length ns → reach (take_many p (m - j)) ns at ≡ reach (take_many p m) ns i → j < m → n + 1 ≡ reach p ns at → n + 1 ≡ reach (take_many p m) ns i
many_bad p s ns i m j at n en inv h e =
    let x = many_next p s ns i m j at inv h (reach p ns at) refl in
    let o = reach_over (take_many p (m - (j + 1))) ns (reach p ns at) (omega arith) in
    omega arith

module _ (ns : List ℕ) (i m top n : ℕ) (en : n ≡ length ns) where
  pub numbers_short : n < i + m → n + 1 ≡ reach (take_many (take_below top) m) ns i
  numbers_short h = reach_top (take_many (take_below top) m) ns i n en (many_short (take_below top) (suffix_below top) ns 1 (below_steps ns top) m i (omega arith))

  module _ (room : i + m ≤ n) (j at : ℕ) (inv : reach (take_many (take_below top) (m - j)) ns at ≡ reach (take_many (take_below top) m) ns i) (is : at ≡ i + j) where
    pub numbers_bad : j < m → (v : ℕ) → top ≤ v → v ≡ get_or ns at 0 → n + 1 ≡ reach (take_many (take_below top) m) ns i
    numbers_bad more v h ev = many_bad (take_below top) (suffix_below top) ns i m j at n en inv more (below_bad ns at top n en (omega arith) v ev h)

    pub numbers_next : j < m → (v : ℕ) → v < top → v ≡ get_or ns at 0 → reach (take_many (take_below top) (m - (j + 1))) ns (at + 1) ≡ reach (take_many (take_below top) m) ns i
    numbers_next more v h ev = many_next (take_below top) (suffix_below top) ns i m j at inv more (at + 1) (below_good ns at top n en (omega arith) v ev h)

    pub numbers_done : m ≤ j → j ≤ m → at ≡ reach (take_many (take_below top) m) ns i
    numbers_done h g = many_done (take_below top) (suffix_below top) ns i m j at inv h n en (omega arith)

-- ---- so many records

nick_three : (ns : List ℕ) (i : ℕ) → reach (take_item 6) ns i ≡ three_end ns i 256 65536 65536
nick_three ns i = sym (nick_end ns i _ _ _ refl refl refl)

nick_steps : (ns : List ℕ) → Steps (take_item 6) ns 3
nick_steps ns i h = let e = nick_three ns i in e ∙ three_steps ns i 256 65536 65536 (length ns) refl (omega arith)

abbrev record_test : List ℕ → ℕ → Bool
record_test ns i = both (ltb (get_or ns i 0) 256) (both (ltb (get_or ns (i + 1) 0) 65536) (ltb (get_or ns (i + 2) 0) 65536))

module _ (ns : List ℕ) (i m n : ℕ) (en : n ≡ length ns) where
  pub records_short : n < i + 3 * m → n + 1 ≡ reach (take_many (take_item 6) m) ns i
  records_short h = reach_top (take_many (take_item 6) m) ns i n en (many_short (take_item 6) (suffix_item 6) ns 3 (nick_steps ns) m i (omega arith))

  module _ (room : i + 3 * m ≤ n) (j : ℕ) (inv : reach (take_many (take_item 6) (m - j)) ns (i + 3 * j) ≡ reach (take_many (take_item 6) m) ns i) where
    abbrev at : ℕ
    at = i + 3 * j

    pub records_bad : j < m → (r : Bool) → r ≡ record_test ns (i + 3 * j) → r ≡ false → n + 1 ≡ reach (take_many (take_item 6) m) ns i
    records_bad more r er h = many_bad (take_item 6) (suffix_item 6) ns i m j at n en inv more (three_bad ns at 256 65536 65536 n en (omega arith) (get_or ns at 0) (get_or ns (at + 1) 0) (get_or ns (at + 2) 0) refl refl refl r er h ∙ sym (nick_three ns at))

    pub records_next : j < m → (r : Bool) → r ≡ record_test ns (i + 3 * j) → r ≡ true → reach (take_many (take_item 6) (m - (j + 1))) ns (i + 3 * (j + 1)) ≡ reach (take_many (take_item 6) m) ns i
    records_next more r er h =
        let e : i + 3 * (j + 1) ≡ at + 3 = omega arith in
        many_next (take_item 6) (suffix_item 6) ns i m j at inv more (i + 3 * (j + 1)) (e ∙ three_good ns at 256 65536 65536 n en (omega arith) (get_or ns at 0) (get_or ns (at + 1) 0) (get_or ns (at + 2) 0) refl refl refl r er h ∙ sym (nick_three ns at))

    pub records_done : m ≤ j → j ≤ m → i + 3 * m ≡ reach (take_many (take_item 6) m) ns i
    records_done h g =
        let e : i + 3 * m ≡ at = omega arith in
        e ∙ many_done (take_item 6) (suffix_item 6) ns i m j at inv h n en (omega arith)

-- ---- F, M and the label

module _ (ns : List ℕ) (i n : ℕ) (en : n ≡ length ns) (more : i < n) where
  label_three : (f : ℕ) → f ≡ get_or ns i 0 → (top : ℕ) → top ≡ label_top f → three_end ns i 2 2 top ≡ reach (take_head 23) ns i
  label_three f ef top et = label_on ns i n en more f ef top et _ _ _ refl refl refl

  pub label_short : n < i + 3 → n + 1 ≡ reach (take_head 23) ns i
  label_short h = three_short ns i 2 2 (label_top (get_or ns i 0)) n en h ∙ label_three (get_or ns i 0) refl (label_top (get_or ns i 0)) refl

  module _ (inside : i + 3 ≤ n) (r : Bool) where
    pub label_good_lem : r ≡ true → (x y z top : ℕ) → r ≡ both (ltb x 2) (both (ltb y 2) (ltb z top)) → x ≡ get_or ns i 0 → y ≡ get_or ns (i + 1) 0 → z ≡ get_or ns (i + 2) 0 → top ≡ label_top x → i + 3 ≡ reach (take_head 23) ns i
    label_good_lem h x y z top er ex ey ez et = three_good ns i 2 2 top n en inside x y z ex ey ez r er h ∙ label_three x ex top et

    pub label_bad : r ≡ false → (x y z top : ℕ) → r ≡ both (ltb x 2) (both (ltb y 2) (ltb z top)) → x ≡ get_or ns i 0 → y ≡ get_or ns (i + 1) 0 → z ≡ get_or ns (i + 2) 0 → top ≡ label_top x → n + 1 ≡ reach (take_head 23) ns i
    label_bad h x y z top er ex ey ez et = three_bad ns i 2 2 top n en inside x y z ex ey ez r er h ∙ label_three x ex top et

-- ---- so many elements, by the type

many_same : {A B : Type 0} (p : Taker A) (sp : Suffix p) (q : Taker B) (sq : Suffix q) (ns : List ℕ) → ((i : ℕ) → reach p ns i ≡ reach q ns i) → (m i : ℕ) → reach (take_many p m) ns i ≡ reach (take_many q m) ns i
many_same p sp q sq ns e zero i =
    inside_or i (length ns) (reach (take_many p 0) ns i ≡ reach (take_many q 0) ns i)
    (λ g. reach_none p sp ns i g ∙ sym (reach_none q sq ns i g))
    (λ g. reach_over (take_many p 0) ns i g ∙ sym (reach_over (take_many q 0) ns i g))
many_same p sp q sq ns e (suc m) i =
    reach_next p sp ns m i ∙ many_same p sp q sq ns e m (reach p ns i) ∙ ap (reach (take_many q m) ns) (e i) ∙ sym (reach_next q sq ns m i)

module _ (k : ℕ) (ns : List ℕ) (m i r : ℕ) where
  pub items_8 : k ≡ 8 → r ≡ reach (take_many (take_below 65536) m) ns i → r ≡ reach (take_many (take_item k) m) ns i
  items_8 e f = f ∙ many_same (take_below 65536) (suffix_below 65536) (take_item k) (suffix_item k) ns (λ j. item_8 k ns j _ e refl) m i

  pub items_23 : (k ≡ 6 → ⊥) → (k ≡ 8 → ⊥) → r ≡ reach (take_many (take_below 281474976710656) m) ns i → r ≡ reach (take_many (take_item k) m) ns i
  items_23 d e f = f ∙ many_same (take_below 281474976710656) (suffix_below 281474976710656) (take_item k) (suffix_item k) ns (λ j. item_23 k ns j _ d e refl) m i

-- ---- places

pub place_fits : (area : List ℕ) (i k n : ℕ) → i + k ≤ length (numbers_in area) → length area < 2 ^ 64 → n ≤ k → i + n < 2 ^ 64
place_fits area i k n h big g = let l = numbers_length area in omega arith

pub item_fits : (area : List ℕ) (i m j : ℕ) → i + m ≤ length (numbers_in area) → length area < 2 ^ 64 → j < m → i + j < 2 ^ 64
item_fits area i m j h big g = let l = numbers_length area in omega arith
