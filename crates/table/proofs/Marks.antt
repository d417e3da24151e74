-- The fields and the byte of the mark together: what a slot is, by what its fields hold and by that byte.
-- Assumes nothing.
use Prim.Native.Nat.{ℕ}
use mathlib.Core.Bool.{Bool, true, false}
use mathlib.Core.Path.{◌≡◌, refl, sym, ◌∙◌}
use lib.Dec.{eqb}
use borrow.Author.Tests.{eq-eqb, ne_eqb}
use Rattle.numbers.specs.Tests.{pick, both}
use Rattle.numbers.proofs.Truth.{both_left, both_right}
use Rattle.table.specs.Record.{empty_of, multihomed_of, with_mark, marked_slot, is_free, is_spoilt, is_learned, entry_matches, slot_matches}
use Rattle.table.specs.declared.Label.{Label}
use Rattle.table.specs.declared.Entry.{Entry}
use Rattle.table.specs.declared.Slot.{Slot}
use Rattle.table.specs.declared.Slot.TheVariants.{Free, Spoilt, Learned, Configured}

-- a test that a spoilt slot does not pass
module _ (p : Slot → Bool) (spoilt : p Spoilt ≡ false) where
  passes_if : (z : Bool) (s : Slot) → p (pick z s Spoilt) ≡ both (p s) z
  unfolding pick both
  passes_if true s = go (p s)
    where
      go : (b : Bool) → b ≡ both b true
      go true = refl
      go false = refl
  passes_if false s = spoilt ∙ sym (both_right (p s) false refl)

module _ (b : ℕ) where
  pub marked_learned : (s : Slot) → is_learned (marked_slot b s) ≡ both (is_learned s) (eqb (empty_of b) 0)
  unfolding marked_slot both
  marked_learned Free = passes_if is_learned refl (eqb b 0) Free
  marked_learned Spoilt = refl
  marked_learned (Learned e) = passes_if is_learned refl (eqb (empty_of b) 0) (Learned _)
  marked_learned (Configured e) = passes_if is_learned refl (eqb (empty_of b) 0) (Configured _)

  pub marked_free : (s : Slot) → is_free (marked_slot b s) ≡ both (is_free s) (eqb b 0)
  unfolding marked_slot both
  marked_free Free = passes_if is_free refl (eqb b 0) Free
  marked_free Spoilt = refl
  marked_free (Learned e) = passes_if is_free refl (eqb (empty_of b) 0) (Learned _)
  marked_free (Configured e) = passes_if is_free refl (eqb (empty_of b) 0) (Configured _)

  pub marked_matches_lem : (l : Label) (m : ℕ) (s : Slot) → slot_matches l m (marked_slot b s) ≡ both (slot_matches l m s) (eqb (empty_of b) 0)
  unfolding marked_slot both entry_matches
  marked_matches_lem l m Free = passes_if (slot_matches l m) refl (eqb b 0) Free
  marked_matches_lem l m Spoilt = refl
  marked_matches_lem l m (Learned e) = passes_if (slot_matches l m) refl (eqb (empty_of b) 0) (Learned _)
  marked_matches_lem l m (Configured e) = passes_if (slot_matches l m) refl (eqb (empty_of b) 0) (Configured _)

  -- a learned record whose 7 bits are 0
  pub marked_entry : (e : Entry) → eqb (empty_of b) 0 ≡ true → marked_slot b (Learned e) ≡ Learned (with_mark (eqb (multihomed_of b) 1) e)
  unfolding marked_slot pick
  marked_entry e h = rw h

  -- spoilt by the fields; by no bit of the byte; by the 7 bits; by the mark of a free record
  pub spoilt_fields : (s : Slot) → is_spoilt s ≡ true → true ≡ is_spoilt (marked_slot b s)
  unfolding marked_slot
  spoilt_fields Free h = cc
  spoilt_fields Spoilt h = refl
  spoilt_fields (Learned e) h = cc
  spoilt_fields (Configured e) h = cc

  pub spoilt_none : (s : Slot) → is_spoilt s ≡ false → b ≡ 0 → false ≡ is_spoilt (marked_slot b s)
  unfolding marked_slot pick
  spoilt_none Free h e = rw e
  spoilt_none Spoilt h e = cc
  spoilt_none (Learned x) h e = rw e
  spoilt_none (Configured x) h e = rw e

  pub spoilt_bits : (s : Slot) → (empty_of b ≡ 0 → ⊥) → true ≡ is_spoilt (marked_slot b s)
  unfolding marked_slot pick
  spoilt_bits Free h = rw (ne_eqb b 0 (λ e. h (rw e)))
  spoilt_bits Spoilt h = refl
  spoilt_bits (Learned x) h = rw (ne_eqb (empty_of b) 0 h)
  spoilt_bits (Configured x) h = rw (ne_eqb (empty_of b) 0 h)

  pub spoilt_mark : (s : Slot) → is_spoilt s ≡ false → (b ≡ 0 → ⊥) → empty_of b ≡ 0 → is_free s ≡ is_spoilt (marked_slot b s)
  unfolding marked_slot pick
  spoilt_mark Free h some e = rw (ne_eqb b 0 some)
  spoilt_mark Spoilt h some e = cc
  spoilt_mark (Learned x) h some e = rw (eq-eqb (empty_of b) 0 e)
  spoilt_mark (Configured x) h some e = rw (eq-eqb (empty_of b) 0 e)

-- where the fields decide, and where the 7 bits do
module _ (b : ℕ) (s : Slot) where
  pub learned_none : is_learned s ≡ false → false ≡ is_learned (marked_slot b s)
  learned_none h = sym (marked_learned b s ∙ both_left (is_learned s) (eqb (empty_of b) 0) h)

  pub learned_bits : (x : ℕ) → is_learned s ≡ true → x ≡ b → eqb (empty_of x) 0 ≡ is_learned (marked_slot b s)
  unfolding both
  learned_bits x h e = sym (rw (marked_learned b s, h, e))

  pub match_none : (l : Label) (m : ℕ) → slot_matches l m s ≡ false → false ≡ slot_matches l m (marked_slot b s)
  match_none l m h = sym (marked_matches_lem b l m s ∙ both_left (slot_matches l m s) (eqb (empty_of b) 0) h)

  pub match_bits : (l : Label) (m x : ℕ) → slot_matches l m s ≡ true → x ≡ b → eqb (empty_of x) 0 ≡ slot_matches l m (marked_slot b s)
  unfolding both
  match_bits l m x h e = sym (rw (marked_matches_lem b l m s, h, e))

  pub free_none : is_free s ≡ false → false ≡ is_free (marked_slot b s)
  free_none h = sym (marked_free b s ∙ both_left (is_free s) (eqb b 0) h)

  pub free_bits : (x : ℕ) → is_free s ≡ true → x ≡ b → eqb x 0 ≡ is_free (marked_slot b s)
  unfolding both
  free_bits x h e = sym (rw (marked_free b s, h, e))
