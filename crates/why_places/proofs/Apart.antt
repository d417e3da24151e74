-- Numbers of a list that are passed over.
-- Assumes nothing.
use Prim.Native.Nat.{ℕ, ◌+◌, ◌-◌, ◌*◌, ◌%◌, ◌^◌, ◌<◌, ◌≤◌}
use mathlib.Core.Bool.{Bool, true, false, not, ◌&&◌}
use mathlib.Core.List.{List}
use mathlib.Core.Path.{◌≡◌, refl, sym, ap, ◌∙◌}
use native.Mathlib.Omega.{arith}
use lib.Dec.{eqb}
use lib.ListN.{length, drop, get_or}
use borrow.Author.Tests.{eqb-false, not-true}
use Rattle.numbers.specs.Numberings.{number_of, in_list}
use Rattle.numbers.specs.declared.Numbering.{Numbering}
use Rattle.numbers.proofs.Truth.{and_true}
use Rattle.flush_members.proofs.Laws.{item_near, part_next}
use Rattle.why_places.specs.Reading.{LastByte, left_has}
use Rattle.why_places.proofs.Laws.{last_differs}

pub last_apart : (w : Numbering) (v : List ℕ) (at x b : ℕ) → LastByte w → at + w.size ≤ length v → b ≡ get_or v (at + (w.size - 1)) 0 → b < 2 ^ 8 → not (eqb b (x % 256)) ≡ true → eqb (number_of w (drop at v)) x ≡ false
last_apart w v at x b by_Last room byte small t = sym (last_differs w v at x b by_Last room byte small (eqb-false b (x % 256) (not-true _ t)))

pub four_true : (a b c d : Bool) → (a && b) && (c && d) ≡ true → ((a ≡ true) × (b ≡ true)) × ((c ≡ true) × (d ≡ true))
four_true a b c d e = let (l, r) = and_true (a && b) (c && d) e in (and_true a b l, and_true c d r)

module _ (w : Numbering) (x : ℕ) (v : List ℕ) (by_Last : LastByte w) where
  pub left_next : (at : ℕ) → at + w.size ≤ length v → eqb (number_of w (drop at v)) x ≡ false → left_has w x v at ≡ left_has w x v (at + w.size)
  unfolding left_has
  left_next at room other =
      let k = by_Last.sound.width.least in
      part_next (λ b. eqb (number_of w b) x) w.size (item_near w x) (omega arith) v at _ refl (omega arith) _ refl other

  pub four_left : (at : ℕ) → at + 4 * w.size ≤ length v
      → eqb (number_of w (drop at v)) x ≡ false → eqb (number_of w (drop (at + w.size) v)) x ≡ false
      → eqb (number_of w (drop (at + 2 * w.size) v)) x ≡ false → eqb (number_of w (drop (at + 3 * w.size) v)) x ≡ false
      → left_has w x v at ≡ left_has w x v (at + 4 * w.size)
  four_left at room a b c d =
      let two : at + w.size + w.size ≡ at + 2 * w.size = omega arith in
      let three : at + 2 * w.size + w.size ≡ at + 3 * w.size = omega arith in
      let four : at + 3 * w.size + w.size ≡ at + 4 * w.size = omega arith in
      left_next at (omega arith) a
      ∙ left_next (at + w.size) (omega arith) b ∙ ap (left_has w x v) two
      ∙ left_next (at + 2 * w.size) (omega arith) c ∙ ap (left_has w x v) three
      ∙ left_next (at + 3 * w.size) (omega arith) d ∙ ap (left_has w x v) four

-- the whole list
pub list_left : (w : Numbering) (x : ℕ) (v : List ℕ) → in_list w x v ≡ left_has w x v 0
unfolding in_list left_has
list_left w x v = refl
