-- Laws of the number that a filter tests: by the field, and that a slot's own bytes are enough.
-- Assumes nothing.
use Prim.Native.Nat.{ℕ, ◌+◌, ◌*◌, ◌^◌, ◌≤◌, ◌<◌}
use mathlib.Core.Bool.{true, not}
use mathlib.Core.List.{List}
use mathlib.Core.Path.{◌≡◌, refl, ap}
use native.Mathlib.Omega.{arith}
use lib.Dec.{eqb}
use lib.ListN.{length, take, get_or}
use Rattle.table.specs.Record.{record_bytes, record_of, kind_of, label_of, mac_of}
use Rattle.table.specs.Slots.{slot_bytes, most_slots, slots_of}
use Rattle.table.proofs.Contents.{record_near}
use Rattle.flush_sort.proofs.Laws.{all_at}
use Rattle.flush_keys.specs.Keys.{number_in, applies_to, InTable}
use Rattle.flush_keys.specs.declared.Field.{Field}
use Rattle.flush_keys.specs.declared.Field.TheVariants.{Fine, Mac}

module _ (f : Field) (l : List ℕ) (r : ℕ) where
  pub number_fine : f ≡ Fine → r ≡ label_of (record_of l) → (r ≡ number_in f l) × (r < 2 ^ 48)
  unfolding number_in
  number_fine e h = (rw e h, omega arith)

  pub number_mac : f ≡ Mac → r ≡ mac_of (record_of l) → (r ≡ number_in f l) × (r < 2 ^ 48)
  unfolding number_in
  number_mac e h = (rw e h, omega arith)

  pub applies_fine : f ≡ Fine → r ≡ kind_of (record_of l) → not (eqb r 0) ≡ applies_to f l
  unfolding applies_to
  applies_fine e h = rw (e, h)

pub applies_mac : (f : Field) (l : List ℕ) → f ≡ Mac → true ≡ applies_to f l
unfolding applies_to
applies_mac f l e = rw e

pub number_near : (f : Field) (l : List ℕ) → number_in f (take slot_bytes l) ≡ number_in f l
unfolding number_in
number_near Fine l = ap label_of (record_near l)
number_near Mac l = ap mac_of (record_near l)

pub applies_near : (f : Field) (l : List ℕ) → applies_to f (take slot_bytes l) ≡ applies_to f l
unfolding applies_to
applies_near Fine l = ap (λ (n : ℕ). not (eqb (kind_of n) 0)) (record_near l)
applies_near Mac l = refl

-- ---- a slot of a list

module _ (t slots : List ℕ) (i : ℕ) (inside : InTable t slots) (h : i < length slots) where
  pub slot_room : slot_bytes * get_or slots i 0 + record_bytes ≤ length t
  slot_room = let l = all_at (λ s. s < slots_of t) slots i inside.each h in omega arith

  pub slot_few : get_or slots i 0 < most_slots
  slot_few =
      let l = all_at (λ s. s < slots_of t) slots i inside.each h in
      let f = inside.few in
      omega arith
