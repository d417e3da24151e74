-- The walk over the entries of a section: the cursor is that of the fold, and no number brings more than nine bytes.
-- Assumes nothing.
use Prim.Native.Nat.{ℕ, suc, ◌+◌, ◌-◌, ◌*◌, ◌^◌, ◌<◌, ◌≤◌}
use mathlib.Core.Bool.{Bool, true, false}
use mathlib.Core.List.{List, ◌++◌}
use mathlib.Core.Path.{◌≡◌, refl, sym, ap, ◌∙◌}
use native.Mathlib.Omega.{arith}
use lib.Dec.{eqb}
use lib.ListN.{length, get_or}
use borrow.Author.Tests.{ne_eqb, eqb-true, eqb-false}
use Rattle.numbers.specs.Tests.{pick, either}
use Rattle.frame_copy.specs.Areas.{pasted}
use Rattle.hello.specs.Tlvs.{tlv_bytes}
use Rattle.hello.specs.Pieces.{Sub}
use Rattle.hello.specs.Writing.{head_of, sub_bytes}
use Rattle.hello.specs.Area.{take_many}
use Rattle.hello_area.specs.Entries.{numbers_in, holder_for, take_sub, take_subs, reach, sub_at, subs_at}
use Rattle.hello_area.proofs.Places.{reach_none}
use Rattle.hello_ends.proofs.Numbers.{numbers_length}
use Rattle.hello_ends.proofs.Shapes.{suffix_sub}
use Rattle.hello_entry.specs.Kinds.{has_section}
use Rattle.hello_entry.proofs.Plain.{reach_got}
use Rattle.hello_entry.proofs.Shape.{entry-alone, entry_listed}
use Rattle.hello_entry.proofs.Counts.{nicknames-counted, trees_counted, macs-counted, alone_ends, alone_long}
use Rattle.hello_put.specs.declared.Cursor.{Cursor}
use Rattle.hello_put.specs.Placing.{unopened, stepped, opened, stepped_by, placed, stepped_all, placed_all}
use Rattle.hello_put.proofs.Laws.{step_ordered, step_most}
use Rattle.hello_put.proofs.Placed.{stepped-append, placed-append, steps_grow}
use Rattle.hello_write.specs.declared.Walk.{Walk}
use Rattle.hello_write.specs.Sections.{section_at, section_end, subs_in, front_in, at_first, walked}
use Rattle.hello_write.proofs.Taking.{first_within, count-within, section_is, within_22, within_6, within_8, within_23}

-- ---- the holder

module _ (k : ℕ) where
  pub holder_22 : k ≡ 22 → 251 ≡ holder_for k
  unfolding pick either
  holder_22 e = rw e

  pub holder_23 : k ≡ 23 → 251 ≡ holder_for k
  unfolding pick either
  holder_23 e = rw e

  pub holder_other : (k ≡ 22 → ⊥) → (k ≡ 23 → ⊥) → 242 ≡ holder_for k
  unfolding pick either
  holder_other a b = rw (ne_eqb k 22 a, ne_eqb k 23 b)

-- a type that has a section, and none of the other three
pub section_last : (k : ℕ) → has_section k ≡ true → (k ≡ 22 → ⊥) → (k ≡ 6 → ⊥) → (k ≡ 8 → ⊥) → k ≡ 23
unfolding has_section either
section_last k h a b c = eqb-true k 23 (rw (ne_eqb k 22 a, ne_eqb k 6 b, ne_eqb k 8 c) at h)

-- ---- one entry

either_is : (k n : ℕ) (P : Type 0) → (k ≡ n → P) → ((k ≡ n → ⊥) → P) → P
either_is k n P a b = go (eqb k n) refl
  where
    go : (c : Bool) → eqb k n ≡ c → P
    go true e = a (eqb-true k n e)
    go false e = b (eqb-false k n e)

module _ (k : ℕ) (area : List ℕ) (i : ℕ) (good : reach (take_sub k) (numbers_in area) i ≤ length (numbers_in area)) where
  abbrev entry : Sub
  entry = sub_at k (numbers_in area) i

  pub sub_holder : entry.holder ≡ holder_for k
  sub_holder =
      either_is k 22 (entry.holder ≡ holder_for k)
      (λ e. ap (λ (s : Sub). s.holder) (entry-alone k (numbers_in area) i good e).1.1)
      (λ d. ap (λ (s : Sub). s.holder) (entry_listed k (numbers_in area) i good d).is)

  -- by its count
  abbrev Small : Type 0
  Small = 9 * i + (7 + length (sub_bytes entry)) ≤ 9 * reach (take_sub k) (numbers_in area) i

  small : Small
  small =
      either_is k 22 Small
      (λ e. let x = alone_ends k area i good e in let y = alone_long k area i good e in omega arith)
      (λ d. either_is k 6 Small
      (λ e. let n = nicknames-counted k area i good d e in let x = n.ends in let y = n.long in omega arith)
      (λ f. either_is k 8 Small
      (λ e. let n = trees_counted k area i good d f e in let x = n.ends in let y = n.long in omega arith)
      (λ g. let n = macs-counted k area i good d f g in let x = n.ends in let y = n.long in omega arith)))

  module _ (c : Cursor) where
    pub entry-stepped : (h n : ℕ) → h ≡ holder_for k → n ≡ length (sub_bytes entry) → (r : Cursor) → r ≡ stepped c h n → r ≡ stepped_by c entry
    entry-stepped h n eh en r e = e ∙ rw (eh, en, sub_holder)

    module _ (r : Cursor) (er : r ≡ stepped_by c entry) where
      pub entry_ordered : c.start ≤ c.at → r.start ≤ r.at
      entry_ordered h = rw er (step_ordered c entry.holder (length (sub_bytes entry)) h)

      pub entry_most : c.at ≤ 9 * i → (e : ℕ) → e ≡ reach (take_sub k) (numbers_in area) i → r.at ≤ 9 * e
      entry_most h e ee =
          let a = ap (λ (d : Cursor). d.at) er in
          let b = step_most c entry.holder (length (sub_bytes entry)) in
          let s = small in
          omega arith

  -- ---- and written

  pub entry_two : (n : ℕ) → n ≡ length (sub_bytes entry) → 2 ≤ n
  unfolding sub_bytes tlv_bytes
  entry_two n en = omega arith

  module _ (c : Cursor) (o : List ℕ) (room : (stepped_by c entry).at ≤ length o) where
    module _ (h n : ℕ) (eh : h ≡ holder_for k) (en : n ≡ length (sub_bytes entry)) where
      pub entry-head : length (head_of (holder_for k)) + n ≤ 255 → length (head_of h) + n ≤ 255
      entry-head f = rw eh f

      pub entry_room : (stepped c h n).at ≤ length o
      entry_room = rw (eh, en, ← sub_holder) room

      -- behind it the sub-TLV ends
      module _ (d : Cursor) (ed : d ≡ stepped c h n) (p : ℕ) (ep : p + n ≡ d.at) where
        pub entry_end : (u : List ℕ) → length u ≡ length o → p + length (sub_bytes entry) ≤ length u
        entry_end u same =
            let a = ap (λ (e : Cursor). e.at) ed in
            let r = entry_room in
            omega arith

        pub entry-placed : (u v : List ℕ) → u ≡ opened o c h n → v ≡ pasted u p (sub_bytes entry) → v ≡ placed o c entry
        unfolding placed
        entry-placed u v eu ev =
            let a = ap (λ (e : Cursor). e.at) ed in
            let z : p ≡ (stepped c h n).at - n = omega arith in
            ev ∙ rw (eu, z, eh, en, sub_holder)

-- ---- the loop over entries

module _ (k : ℕ) (ns : List ℕ) (i m : ℕ) where
  module _ (j at : ℕ) (more : j < m) where
    left : m - j ≡ suc (m - (j + 1))
    left = omega arith

    pub entry_good_lem : reach (take_many (take_sub k) (m - j)) ns at ≡ reach (take_many (take_sub k) m) ns i → reach (take_many (take_sub k) m) ns i ≤ length ns → reach (take_sub k) ns at ≤ length ns
    entry_good_lem e h =
        let f = ap (λ (n : ℕ). reach (take_many (take_sub k) n) ns at) left in
        first_within k ns (m - (j + 1)) at (omega arith)

    pub entries_next : (c d : Cursor) → stepped_all d (subs_at k ns at (m - j)) ≡ stepped_all c (subs_at k ns i m) → (r : Cursor) → r ≡ stepped_by d (sub_at k ns at) → (e : ℕ) → e ≡ reach (take_sub k) ns at → stepped_all r (subs_at k ns e (m - (j + 1))) ≡ stepped_all c (subs_at k ns i m)
    unfolding subs_at stepped_all
    entries_next c d inv r er e ee = rw (er, ee) (sym (ap (λ (n : ℕ). stepped_all d (subs_at k ns at n)) left) ∙ inv)

  pub entries_done : (j at : ℕ) → m ≤ j → (c d : Cursor) → stepped_all d (subs_at k ns at (m - j)) ≡ stepped_all c (subs_at k ns i m) → d ≡ stepped_all c (subs_at k ns i m)
  unfolding subs_at stepped_all
  entries_done j at h c d inv =
      let z : m - j ≡ 0 = omega arith in
      sym (ap (λ (n : ℕ). stepped_all d (subs_at k ns at n)) z) ∙ inv

  pub entries_end : (j at : ℕ) → m ≤ j → reach (take_many (take_sub k) (m - j)) ns at ≡ reach (take_many (take_sub k) m) ns i → reach (take_many (take_sub k) m) ns i ≤ length ns → at ≡ reach (take_many (take_sub k) m) ns i
  entries_end j at h e g =
      let z : m - j ≡ 0 = omega arith in
      let f = ap (λ (n : ℕ). reach (take_many (take_sub k) n) ns at) z in
      let a = (reach_got (take_many (take_sub k) 0) ns at (omega arith)).starts in
      sym (reach_none (take_sub k) (suffix_sub k) ns at a) ∙ sym f ∙ e

-- the same with the area
module _ (k : ℕ) (ns : List ℕ) (i m : ℕ) where
  module _ (j at : ℕ) (more : j < m) (c d : Cursor) where
    pub puts_room : stepped_all d (subs_at k ns at (m - j)) ≡ stepped_all c (subs_at k ns i m) → (out o : List ℕ) → (stepped_all c (subs_at k ns i m)).at ≤ length out → length o ≡ length out → (stepped_by d (sub_at k ns at)).at ≤ length o
    unfolding subs_at stepped_all
    puts_room inv out o room same =
        let e : stepped_all (stepped_by d (sub_at k ns at)) (subs_at k ns (reach (take_sub k) ns at) (m - (j + 1))) ≡ stepped_all c (subs_at k ns i m) = sym (ap (λ (n : ℕ). stepped_all d (subs_at k ns at n)) (left k ns i m j at more)) ∙ inv in
        let f = ap (λ (x : Cursor). x.at) e in
        let g = steps_grow (subs_at k ns (reach (take_sub k) ns at) (m - (j + 1))) (stepped_by d (sub_at k ns at)) in
        omega arith

    pub puts_next : (out o : List ℕ) → placed_all o d (subs_at k ns at (m - j)) ≡ placed_all out c (subs_at k ns i m) → (r : Cursor) → r ≡ stepped_by d (sub_at k ns at) → (u : List ℕ) → u ≡ placed o d (sub_at k ns at) → (e : ℕ) → e ≡ reach (take_sub k) ns at → placed_all u r (subs_at k ns e (m - (j + 1))) ≡ placed_all out c (subs_at k ns i m)
    unfolding subs_at placed_all
    puts_next out o inv r er u eu e ee = rw (er, eu, ee) (sym (ap (λ (n : ℕ). placed_all o d (subs_at k ns at n)) (left k ns i m j at more)) ∙ inv)

  pub puts_done : (j at : ℕ) → m ≤ j → (c d : Cursor) (out o : List ℕ) → placed_all o d (subs_at k ns at (m - j)) ≡ placed_all out c (subs_at k ns i m) → o ≡ placed_all out c (subs_at k ns i m)
  unfolding subs_at placed_all
  puts_done j at h c d out o inv =
      let z : m - j ≡ 0 = omega arith in
      sym (ap (λ (n : ℕ). placed_all o d (subs_at k ns at n)) z) ∙ inv

-- ---- a section

module _ (k : ℕ) (ns : List ℕ) (w : Walk) (within : section_end k ns w.next ≤ length ns) where
  pub count-there : w.next < length ns
  count-there = count-within k ns w.next within

  module _ (m : ℕ) (em : m ≡ get_or ns w.next 0) where
    pub section_entries : reach (take_many (take_sub k) m) ns (w.next + 1) ≤ length ns
    section_entries = let e = section_is k ns w.next within in rw em (omega arith)

    pub section-walked : (r : Walk) → r.cursor ≡ stepped_all w.cursor (subs_at k ns (w.next + 1) m) → r.next ≡ reach (take_many (take_sub k) m) ns (w.next + 1) → r ≡ walked k ns w
    unfolding walked section_at
    section-walked r ec en = same_walk r.cursor _ r.next _ (ec ∙ rw em) (en ∙ rw em (section_is k ns w.next within))
      where
        same_walk : (c d : Cursor) (i j : ℕ) → c ≡ d → i ≡ j → ◌≡◌ {A = Walk} (record { cursor = c; next = i }) (record { cursor = d; next = j })
        same_walk c d i j p q = rw (p, q)

  module _ (m : ℕ) (em : m ≡ get_or ns w.next 0) (out : List ℕ) where
    pub section_room : (walked k ns w).cursor.at ≤ length out → (stepped_all w.cursor (subs_at k ns (w.next + 1) m)).at ≤ length out
    unfolding walked section_at
    section_room h = rw em h

    pub section-placed : (u : List ℕ) → u ≡ placed_all out w.cursor (subs_at k ns (w.next + 1) m) → u ≡ placed_all out w.cursor (section_at k ns w.next)
    unfolding section_at
    section-placed u e = e ∙ rw em

pub next_fits : (k : ℕ) (area : List ℕ) (w : Walk) → section_end k (numbers_in area) w.next ≤ length (numbers_in area) → length area < 2 ^ 64 → w.next + 1 < 2 ^ 64
next_fits k area w within few =
    let a = count-within k (numbers_in area) w.next within in
    let n = numbers_length area in
    omega arith

-- ---- the four sections

pub has_22 : has_section 22 ≡ true
unfolding has_section either
has_22 = refl

pub has_6 : has_section 6 ≡ true
unfolding has_section either
has_6 = refl

pub has_8 : has_section 8 ≡ true
unfolding has_section either
has_8 = refl

pub has_23 : has_section 23 ≡ true
unfolding has_section either
has_23 = refl

pub ruleset kinds = (has_22, has_6, has_8, has_23)

pub first_ordered : (z : Walk) → z ≡ at_first → z.cursor.start ≤ z.cursor.at
first_ordered z e = rw e (omega arith)

pub first_most : (z : Walk) → z ≡ at_first → z.cursor.at ≤ 9 * z.next
first_most z e = rw e (omega arith)

module _ (ns : List ℕ) (within : reach take_subs ns 0 ≤ length ns) (z : Walk) (ez : z ≡ at_first) where
  pub at_22 : section_end 22 ns z.next ≤ length ns
  at_22 = rw ez (within_22 ns within)

  module _ (a : Walk) (ea : a ≡ walked 22 ns z) where
    pub at_6 : section_end 6 ns a.next ≤ length ns
    unfolding walked
    at_6 = rw (ea, ez) (within_6 ns within)

    module _ (b : Walk) (eb : b ≡ walked 6 ns a) where
      pub at_8 : section_end 8 ns b.next ≤ length ns
      unfolding walked
      at_8 = rw (eb, ea, ez) (within_8 ns within)

      module _ (c : Walk) (ec : c ≡ walked 8 ns b) where
        pub at_23 : section_end 23 ns c.next ≤ length ns
        unfolding walked
        at_23 = rw (ec, eb, ea, ez) (within_23 ns within)

-- ---- and written

module _ (ns out : List ℕ) (room : (stepped_all unopened (subs_in ns)).at ≤ length out) where
  abbrev first : List Sub
  first = section_at 22 ns 0

  abbrev second : List Sub
  second = section_at 6 ns (section_end 22 ns 0)

  abbrev third : List Sub
  third = section_at 8 ns (section_end 6 ns (section_end 22 ns 0))

  abbrev fourth : List Sub
  fourth = section_at 23 ns (section_end 8 ns (section_end 6 ns (section_end 22 ns 0)))

  one_on : stepped_all unopened (subs_in ns) ≡ stepped_all (stepped_all unopened first) (second ++ (third ++ fourth))
  unfolding subs_in
  one_on = stepped-append first (second ++ (third ++ fourth)) unopened

  two_on : stepped_all unopened (subs_in ns) ≡ stepped_all (stepped_all (stepped_all unopened first) second) (third ++ fourth)
  two_on = one_on ∙ stepped-append second (third ++ fourth) (stepped_all unopened first)

  three_on : stepped_all unopened (subs_in ns) ≡ stepped_all (stepped_all (stepped_all (stepped_all unopened first) second) third) fourth
  three_on = two_on ∙ stepped-append third fourth (stepped_all (stepped_all unopened first) second)

  module _ (z : Walk) (ez : z ≡ at_first) where
    pub room_22 : (walked 22 ns z).cursor.at ≤ length out
    unfolding walked
    room_22 =
        let e = ap (λ (c : Cursor). c.at) one_on in
        let g = steps_grow (second ++ (third ++ fourth)) (stepped_all unopened first) in
        rw ez (omega arith)

    module _ (a : Walk) (ea : a ≡ walked 22 ns z) where
      pub room_6 : (o : List ℕ) → length o ≡ length out → (walked 6 ns a).cursor.at ≤ length o
      unfolding walked
      room_6 o same =
          let e = ap (λ (c : Cursor). c.at) two_on in
          let g = steps_grow (third ++ fourth) (stepped_all (stepped_all unopened first) second) in
          rw (ea, ez) (omega arith)

      module _ (b : Walk) (eb : b ≡ walked 6 ns a) where
        pub front_walked : b ≡ walked 6 ns (walked 22 ns at_first)
        front_walked = rw (eb, ea, ez)

        pub front_placed : (o₁ o₂ : List ℕ) → o₁ ≡ placed_all out z.cursor (section_at 22 ns z.next) → o₂ ≡ placed_all o₁ a.cursor (section_at 6 ns a.next) → o₂ ≡ placed_all out unopened (front_in ns)
        unfolding walked front_in
        front_placed o₁ o₂ p q = q ∙ rw (p, ea, ez) (sym (placed-append first second out unopened))

  module _ (b : Walk) (eb : b ≡ walked 6 ns (walked 22 ns at_first)) where
    pub room_8 : (o : List ℕ) → length o ≡ length out → (walked 8 ns b).cursor.at ≤ length o
    unfolding walked
    room_8 o same =
        let e = ap (λ (c : Cursor). c.at) three_on in
        let g = steps_grow fourth (stepped_all (stepped_all (stepped_all unopened first) second) third) in
        rw eb (omega arith)

    module _ (c : Walk) (ec : c ≡ walked 8 ns b) where
      pub room_23 : (u o : List ℕ) → length u ≡ length out → length o ≡ length u → (walked 23 ns c).cursor.at ≤ length o
      unfolding walked
      room_23 u o same still = let e = ap (λ (c : Cursor). c.at) three_on in rw (ec, eb) (omega arith)

      pub all_placed : (o₂ o₃ o₄ : List ℕ) → o₂ ≡ placed_all out unopened (front_in ns) → o₃ ≡ placed_all o₂ b.cursor (section_at 8 ns b.next) → o₄ ≡ placed_all o₃ c.cursor (section_at 23 ns c.next) → o₄ ≡ placed_all out unopened (subs_in ns)
      unfolding walked subs_in front_in
      all_placed o₂ o₃ o₄ q r s =
          s ∙ rw (r, q, ec, eb, placed-append first second out unopened)
          (sym (placed-append first (second ++ (third ++ fourth)) out unopened
          ∙ placed-append second (third ++ fourth) (placed_all out unopened first) (stepped_all unopened first)
          ∙ placed-append third fourth (placed_all (placed_all out unopened first) (stepped_all unopened first) second) (stepped_all (stepped_all unopened first) second)))

module _ (ns : List ℕ) (within : reach take_subs ns 0 ≤ length ns) (b : Walk) (eb : b ≡ walked 6 ns (walked 22 ns at_first)) where
  pub back_8 : section_end 8 ns b.next ≤ length ns
  back_8 = at_8 ns within at_first refl (walked 22 ns at_first) refl b eb

  pub back_23 : (c : Walk) → c ≡ walked 8 ns b → section_end 23 ns c.next ≤ length ns
  back_23 c ec = at_23 ns within at_first refl (walked 22 ns at_first) refl b eb c ec
