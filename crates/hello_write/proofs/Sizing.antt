-- The walk that judges and sizes: where it is not past the end, its cursor is that of the fold.
-- Assumes nothing.
use Prim.Native.Nat.{ℕ, ◌+◌, ◌-◌, ◌*◌, ◌<◌, ◌≤◌}
use mathlib.Core.Bool.{Bool, true, false}
use mathlib.Core.List.{List}
use mathlib.Core.Path.{◌≡◌, refl, sym, ap, ◌∙◌}
use native.Mathlib.Omega.{arith}
use lib.ListN.{length, get_or}
use borrow.Author.Tests.{leb-true, leb-false}
use Rattle.hello.specs.Pieces.{Sub}
use Rattle.hello.specs.Writing.{sub_bytes}
use Rattle.hello.specs.Area.{take_many}
use Rattle.hello_area.specs.Entries.{numbers_in, holder_for, take_sub, take_subs, reach, sub_at, subs_at}
use Rattle.hello_area.proofs.Places.{reach_none}
use Rattle.hello_ends.specs.Below.{entry_good}
use Rattle.hello_ends.proofs.Shapes.{suffix_sub, many_next, many_over, section_none, section_on, subs_end}
use Rattle.hello_put.specs.declared.Cursor.{Cursor}
use Rattle.hello_put.specs.Placing.{unopened, stepped, stepped_all}
use Rattle.hello_put.proofs.Laws.{step_ordered}
use Rattle.hello_put.proofs.Placed.{stepped-append}
use Rattle.hello_write.specs.declared.Walk.{Walk}
use Rattle.hello_write.specs.Sections.{section_at, section_end, subs_in, at_first, Follows, SizeIs}
use Rattle.hello_write.proofs.Taking.{within_22, within_6, within_8}
use Rattle.hello_write.proofs.Walking.{entry-stepped, entry_most, entries_next, entries_done}
use Rattle.numbers.specs.Result.{Outcome}
use Rattle.std.specs.Prelude.{Ok, Err}
use Rattle.numbers.specs.declared.refusals.Refusal.{Refusal}
use Rattle.numbers.proofs.Answers.{refused_got}

pub past_follows : (ns : List ℕ) (n : ℕ) → n ≡ length ns → (c : Cursor) (ss : List Sub) (r : Walk) → r.next ≡ n + 1 → Follows ns c ss r
past_follows ns n en c ss r e = record { is = λ h. absurd (omega arith) }

-- ---- entries

module _ (k : ℕ) (ns : List ℕ) (at : ℕ) (b : Bool) (eb : b ≡ entry_good k ns at) where
  pub good_within : b ≡ true → reach (take_sub k) ns at ≤ length ns
  good_within h = leb-true (reach (take_sub k) ns at) (length ns) (sym eb ∙ h)

  pub bad_past : b ≡ false → length ns < reach (take_sub k) ns at
  bad_past h = leb-false (reach (take_sub k) ns at) (length ns) (sym eb ∙ h)

pub next_within : (k : ℕ) (ns : List ℕ) (at : ℕ) → reach (take_sub k) ns at ≤ length ns → (r : ℕ) → r ≡ reach (take_sub k) ns at → r ≤ length ns
next_within k ns at good r er = omega arith

-- the cursor after the entry
module _ (c r : Cursor) (h n : ℕ) (er : r ≡ stepped c h n) where
  pub sized_ordered : c.start ≤ c.at → r.start ≤ r.at
  sized_ordered o = rw er (step_ordered c h n o)

  module _ (k : ℕ) (area : List ℕ) (at : ℕ) (good : reach (take_sub k) (numbers_in area) at ≤ length (numbers_in area)) (eh : h ≡ holder_for k) (en : n ≡ length (sub_bytes (sub_at k (numbers_in area) at))) where
    pub sized_most : c.at ≤ 9 * at → (e : ℕ) → e ≡ reach (take_sub k) (numbers_in area) at → r.at ≤ 9 * e
    sized_most = entry_most k area at good c r (entry-stepped k area at good c h n eh en r er)

    pub sized_next : (i m j : ℕ) → j < m → (d : Cursor) → stepped_all c (subs_at k (numbers_in area) at (m - j)) ≡ stepped_all d (subs_at k (numbers_in area) i m) → (e : ℕ) → e ≡ reach (take_sub k) (numbers_in area) at → stepped_all r (subs_at k (numbers_in area) e (m - (j + 1))) ≡ stepped_all d (subs_at k (numbers_in area) i m)
    sized_next i m j more d inv = entries_next k (numbers_in area) i m j at more d c inv r (entry-stepped k area at good c h n eh en r er)

module _ (k : ℕ) (ns : List ℕ) (i m j at n : ℕ) (en : n ≡ length ns) (inv : reach (take_many (take_sub k) (m - j)) ns at ≡ reach (take_many (take_sub k) m) ns i) where
  pub entry_past : j < m → (e : ℕ) → e ≡ reach (take_sub k) ns at → n < e → (r : Walk) → r.next ≡ n + 1 → r.next ≡ reach (take_many (take_sub k) m) ns i
  entry_past more e ee h r er = er ∙ many_over (take_sub k) (suffix_sub k) ns i m (j + 1) e (many_next (take_sub k) (suffix_sub k) ns i m j at inv more e ee) n en h

  pub entry_bad : j < m → length ns < reach (take_sub k) ns at → (r : Walk) → r.next ≡ n + 1 → r.next ≡ reach (take_many (take_sub k) m) ns i
  entry_bad more h r er = entry_past more (reach (take_sub k) ns at) refl (omega arith) r er

  pub walk_done : m ≤ j → at ≤ length ns → at ≡ reach (take_many (take_sub k) m) ns i
  walk_done h g =
      let z : m - j ≡ 0 = omega arith in
      sym (ap (λ (n : ℕ). reach (take_many (take_sub k) n) ns at) z ∙ reach_none (take_sub k) (suffix_sub k) ns at g) ∙ inv

pub walk_follows : (k : ℕ) (ns : List ℕ) (i m j at : ℕ) → m ≤ j → (c d : Cursor) → stepped_all d (subs_at k ns at (m - j)) ≡ stepped_all c (subs_at k ns i m) → Follows ns c (subs_at k ns i m) (record { cursor = d; next = at })
walk_follows k ns i m j at h c d inv = record { is = λ g. entries_done k ns i m j at h c d inv }

-- ---- a section

module _ (k : ℕ) (ns : List ℕ) (w : Walk) (n : ℕ) (en : n ≡ length ns) where
  pub section_past : n ≤ w.next → (r : Walk) → r.next ≡ n + 1 → r.next ≡ section_end k ns w.next
  section_past h r e = e ∙ section_none k ns w.next n en h

  pub section_next : w.next < n → (m : ℕ) → m ≡ get_or ns w.next 0 → (r : Walk) → r.next ≡ reach (take_many (take_sub k) m) ns (w.next + 1) → r.next ≡ section_end k ns w.next
  section_next h m em r e = section_on k ns w.next n en h m em r.next e

module _ (k : ℕ) (ns : List ℕ) (w : Walk) (m : ℕ) (em : m ≡ get_or ns w.next 0) where
  pub section_follows : (r : Walk) → Follows ns w.cursor (subs_at k ns (w.next + 1) m) r → Follows ns w.cursor (section_at k ns w.next) r
  unfolding section_at
  section_follows r f = rw (← em) f

-- ---- the four sections

module _ (ns : List ℕ) (z : Walk) (ez : z ≡ at_first) (a b c d : Walk) (ea : a.next ≡ section_end 22 ns z.next) (eb : b.next ≡ section_end 6 ns a.next) (ec : c.next ≡ section_end 8 ns b.next) (ed : d.next ≡ section_end 23 ns c.next) where
  pub sections_end : d.next ≡ reach take_subs ns 0
  sections_end = subs_end ns 0 a.next b.next c.next d.next (ea ∙ rw ez) eb ec ed

  pub sections_follow : Follows ns z.cursor (section_at 22 ns z.next) a → Follows ns a.cursor (section_at 6 ns a.next) b → Follows ns b.cursor (section_at 8 ns b.next) c → Follows ns c.cursor (section_at 23 ns c.next) d → Follows ns unopened (subs_in ns) d
  unfolding subs_in
  sections_follow fa fb fc fd = record { is = λ h. whole h (rw (← sections_end) h) }
    where
      one : a.next ≡ section_end 22 ns 0
      one = ea ∙ rw ez

      two : b.next ≡ section_end 6 ns (section_end 22 ns 0)
      two = eb ∙ rw one

      three : c.next ≡ section_end 8 ns (section_end 6 ns (section_end 22 ns 0))
      three = ec ∙ rw two

      whole : d.next ≤ length ns → reach take_subs ns 0 ≤ length ns → d.cursor ≡ stepped_all unopened (subs_in ns)
      whole h g =
          let la : a.next ≤ length ns = rw one (within_22 ns g) in
          let lb : b.next ≤ length ns = rw two (within_6 ns g) in
          let lc : c.next ≤ length ns = rw three (within_8 ns g) in
          let pa : a.cursor ≡ stepped_all unopened (section_at 22 ns 0) = fa.is la ∙ rw ez in
          let pb : b.cursor ≡ stepped_all (stepped_all unopened (section_at 22 ns 0)) (section_at 6 ns (section_end 22 ns 0)) = fb.is lb ∙ rw (pa, one) in
          let pc : c.cursor ≡ stepped_all (stepped_all (stepped_all unopened (section_at 22 ns 0)) (section_at 6 ns (section_end 22 ns 0))) (section_at 8 ns (section_end 6 ns (section_end 22 ns 0))) = fc.is lc ∙ rw (pb, two) in
          fd.is h ∙ rw (pc, three)
          (sym (stepped-append (section_at 22 ns 0) _ unopened ∙ stepped-append (section_at 6 ns _) _ _ ∙ stepped-append (section_at 8 ns _) _ _))

-- ---- the judgement

pub size_refused : (ns : List ℕ) (m : Refusal) → SizeIs ns (Err m)
size_refused ns m = record { is = λ n z. refused_got m n z }

pub size_is_one : (ns : List ℕ) (w : Walk) (n : ℕ) → n ≡ length ns → w.next ≡ n → Follows ns unopened (subs_in ns) w → SizeIs ns (Ok w.cursor.at)
size_is_one ns w n en e f = record { is = λ k z. let same : k ≡ w.cursor.at = cc in same ∙ ap (λ (c : Cursor). c.at) (f.is (omega arith)) }

pub size_known : (ns : List ℕ) (r : Outcome ℕ) → SizeIs ns r → (n : ℕ) → r ≡ Ok n → n ≡ (stepped_all unopened (subs_in ns)).at
size_known ns r i n e = i.is n e
