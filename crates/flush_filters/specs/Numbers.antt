-- The test of a filter by a number: a slot passes whose number the message names, or that has no such number.
-- Assumes nothing.
use Rattle.std.specs.Prelude.{ℕ, ◌≤◌, Bool, true, false, not, List, ◌≡◌, eqb, length, take}
use Rattle.numbers.specs.Tests.{both, either, any_of}
use Rattle.numbers.specs.Numberings.{macs, bit_at}
use Rattle.table.specs.Slots.{slot_at}
use Rattle.flush.specs.Payload.{Piece}
use Rattle.flush_parts.specs.Named.{fine_naming, named_of}
use Rattle.flush_parts.specs.declared.Naming.{Naming}
use Rattle.flush_marks.specs.Marks.{mark_bytes, Filtered}
use Rattle.flush_keys.specs.Keys.{number_in, applies_to, keyed}
use Rattle.flush_keys.specs.declared.Field.{Field}
use Rattle.flush_keys.specs.declared.Field.TheVariants.{Fine, Mac}

-- type 8 names MACs in blocks, type 7 in a list
unfoldable pub naming_of : Field → Naming
naming_of Fine = fine_naming
naming_of Mac = record { blocks = 8; singles = 7; mapped = false; maps = 8; numbering = macs }

unfoldable pub slot_passes : Field → List Piece → List ℕ → Bool
slot_passes f ps r = either (not (applies_to f r)) (named_of (naming_of f) ps (number_in f r))

-- the first n keys are those of the slots of a list that have a number that is named, perhaps with others; the slots without such a number
-- are marked
pub record Keyed (f : Field) (ps : List Piece) (t slots keys : List ℕ) (n : ℕ) (m : List ℕ) : Type 0 where
  pub within : n ≤ length keys
  pub long : length m ≡ mark_bytes
  pub others : (j : ℕ) → bit_at j m ≡ both (any_of (eqb j) slots) (not (applies_to f (slot_at j t)))
  pub named : (j : ℕ) → any_of (keyed (named_of (naming_of f) ps) j) (take n keys) ≡ both (any_of (eqb j) slots) (both (applies_to f (slot_at j t)) (named_of (naming_of f) ps (number_in f (slot_at j t))))

-- what a filter that may find no room leaves: the marks filtered, or as they were
pub record Kept (r : Bool) (test : List ℕ → Bool) (t before after : List ℕ) : Type 0 where
  pub done : r ≡ true → Filtered test t before after
  pub same : r ≡ false → after ≡ before
