-- The sub-TLVs that are taken from a contents area are those of its sections, by their places.
-- Assumes nothing.
use Prim.Native.Nat.{ℕ, zero, suc, ◌+◌, ◌-◌, ◌<◌, ◌≤◌}
use mathlib.Core.Bool.{Bool, true, false}
use mathlib.Core.List.{List, [], ◌∷◌}
use mathlib.Core.Path.{◌≡◌, refl, sym, ap, ◌∙◌}
use native.Mathlib.Omega.{arith}
use lib.Dec.{leb}
use lib.ListN.{length, drop, get_or, length-drop}
use lib.Seq.{drop-drop}
use borrow.Author.Tests.{leb-true, leb-false}
use Rattle.numbers.specs.Result.{and_then}
use Rattle.hello.specs.Pieces.{Sub}
use Rattle.hello.specs.Area.{Taker, taken, take_one, then, take_many, take_counted}
use Rattle.hello_area.specs.Entries.{take_sub, take_both, take_subs, reach, sub_in, sub_at, subs_at}
use Rattle.hello_area.proofs.Places.{Suffix, reach_none, reach_next}
use Rattle.hello_ends.proofs.Numbers.{here}
use Rattle.hello_ends.proofs.Shapes.{suffix_sub, section_none, section_on, subs_end}
use Rattle.hello_entry.proofs.Plain.{reach_got}
use Rattle.hello_write.specs.Sections.{section_at, section_end, subs_in}

-- ---- one entry

-- a taker that ends within takes something, and what is left starts where it ends
found : {A : Type 0} (p : Taker A) → Suffix p → (ns : List ℕ) (i : ℕ) → reach p ns i ≤ length ns → (x : A) × (p (drop i ns) ≡ taken x (drop (reach p ns i) ns))
found p s ns i h =
    let g = reach_got p ns i h in
    let w = s (drop i ns) g.took g.is in
    let n = w.short in
    let d = length-drop i ns in
    let a = g.starts in
    let e = g.ends in
    let k : i + (length (drop i ns) - length g.took.rest) ≡ reach p ns i = omega arith in
    (g.took.value, g.is ∙ ap (λ (r : List ℕ). taken g.took.value r) (w.is ∙ drop-drop (length (drop i ns) - length g.took.rest) i ns ∙ ap (λ (x : ℕ). drop x ns) k))

module _ (k : ℕ) (ns : List ℕ) where
  sub-found : (i : ℕ) → reach (take_sub k) ns i ≤ length ns → take_sub k (drop i ns) ≡ taken (sub_at k ns i) (drop (reach (take_sub k) ns i) ns)
  unfolding sub_at sub_in
  sub-found i h =
      let f = found (take_sub k) (suffix_sub k) ns i h in
      let e : sub_in k (take_sub k (drop i ns)) ≡ f.0 = ap (sub_in k) f.1 in
      f.1 ∙ ap (λ (x : Sub). taken x (drop (reach (take_sub k) ns i) ns)) (sym e)

  -- ---- many of them

  -- of some entries that end within, so does the first
  pub first_within : (m i : ℕ) → reach (take_many (take_sub k) (suc m)) ns i ≤ length ns → reach (take_sub k) ns i ≤ length ns
  first_within m i h =
      let e = reach_next (take_sub k) (suffix_sub k) ns m i in
      (reach_got (take_many (take_sub k) m) ns (reach (take_sub k) ns i) (omega arith)).starts

  many_found : (m i : ℕ) → reach (take_many (take_sub k) m) ns i ≤ length ns → take_many (take_sub k) m (drop i ns) ≡ taken (subs_at k ns i m) (drop (reach (take_many (take_sub k) m) ns i) ns)
  unfolding take_many subs_at then and_then
  many_found zero i h =
      let a = (reach_got (take_many (take_sub k) 0) ns i h).starts in
      ap (λ (n : ℕ). taken [] (drop n ns)) (sym (reach_none (take_sub k) (suffix_sub k) ns i a))
  many_found (suc m) i h =
      let e = reach_next (take_sub k) (suffix_sub k) ns m i in
      let r : ℕ = reach (take_sub k) ns i in
      rw (sub-found i (first_within m i h), many_found m r (omega arith)) (ap (λ (n : ℕ). taken (sub_at k ns i ∷ subs_at k ns r m) (drop n ns)) (sym e))

  -- ---- a section

  -- of a section that ends within, the count and its entries do
  pub count-within : (i : ℕ) → section_end k ns i ≤ length ns → i < length ns
  count-within i h = go (leb (length ns) i) refl
    where
      go : (c : Bool) → leb (length ns) i ≡ c → i < length ns
      go true e = let n = section_none k ns i (length ns) refl (leb-true (length ns) i e) in absurd (omega arith)
      go false e = leb-false (length ns) i e

  pub section_is : (i : ℕ) → section_end k ns i ≤ length ns → reach (take_many (take_sub k) (get_or ns i 0)) ns (i + 1) ≡ section_end k ns i
  section_is i h = section_on k ns i (length ns) refl (count-within i h) (get_or ns i 0) refl (reach (take_many (take_sub k) (get_or ns i 0)) ns (i + 1)) refl

  section-found : (i : ℕ) → section_end k ns i ≤ length ns → take_counted (take_sub k) (drop i ns) ≡ taken (section_at k ns i) (drop (section_end k ns i) ns)
  unfolding take_counted then take_one and_then section_at
  section-found i h =
      let e = section_is i h in
      rw (here ns i (count-within i h)) (many_found (get_or ns i 0) (i + 1) (omega arith) ∙ ap (λ (n : ℕ). taken (subs_at k ns (i + 1) (get_or ns i 0)) (drop n ns)) e)

-- ---- the four sections

module _ (ns : List ℕ) where
  abbrev end_a : ℕ
  end_a = section_end 22 ns 0

  abbrev end_b : ℕ
  end_b = section_end 6 ns end_a

  abbrev end_c : ℕ
  end_c = section_end 8 ns end_b

  abbrev end_d : ℕ
  end_d = section_end 23 ns end_c

  pub last_end : end_d ≡ reach take_subs ns 0
  last_end = subs_end ns 0 end_a end_b end_c end_d refl refl refl refl

  module _ (within : reach take_subs ns 0 ≤ length ns) where
    pub within_23 : end_d ≤ length ns
    within_23 = let e = last_end in omega arith

    pub within_8 : end_c ≤ length ns
    within_8 = (reach_got (take_counted (take_sub 23)) ns end_c within_23).starts

    pub within_6 : end_b ≤ length ns
    within_6 = (reach_got (take_counted (take_sub 8)) ns end_b within_8).starts

    pub within_22 : end_a ≤ length ns
    within_22 = (reach_got (take_counted (take_sub 6)) ns end_a within_6).starts

    pub subs_found : take_subs ns ≡ taken (subs_in ns) (drop (reach take_subs ns 0) ns)
    unfolding take_subs take_both then and_then subs_in
    subs_found =
        rw (section-found 22 ns 0 within_22, section-found 6 ns end_a within_6, section-found 8 ns end_b within_8, section-found 23 ns end_c within_23)
        (ap (λ (n : ℕ). taken (subs_in ns) (drop n ns)) last_end)
