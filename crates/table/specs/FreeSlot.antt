-- The search for a free slot (document 02, 2026-04).
-- Assumes nothing.
use Rattle.std.specs.Prelude.{ℕ, suc, ◌<◌, Bool, List, ◌≡◌, eqb, Option, Some, None, Ok, Err}
use Rattle.numbers.specs.Result.{check, settled, Outcome}
use Rattle.table.specs.Record.{free_state, record_of, state_of, unpacked}
use Rattle.table.specs.Slots.{table_good, slots_of, slot_at, count_slots, lowest}
use Rattle.table.specs.Learning.{free_slot}
use Rattle.table.specs.declared.Slot.TheVariants.{Free}
use Rattle.table.specs.declared.FreeSearch.{FreeSearch}
use Rattle.table.specs.declared.FreeAnswer.{FreeAnswer}
use Rattle.table.specs.declared.FreeAnswer.TheVariants as free
use Rattle.numbers.specs.declared.refusals.Refusal.TheVariants.{TableLengthBad}

-- "Look at the two state bits first and unpack only where they are 0"
unfoldable pub state_free : List ℕ → Bool
state_free r = eqb (state_of (record_of r)) free_state

-- how many of n slots are searched: "up to the one found, or all"
unfoldable pub slots_searched : Option ℕ → ℕ → ℕ
slots_searched (Some k) n = suc k
slots_searched None n = n

-- "the number unpacked: the slots with state 0 up to the one found, or all such"
unfoldable pub slots_unpacked : Option ℕ → List ℕ → ℕ
slots_unpacked p t = count_slots state_free 0 (slots_searched p (slots_of t)) t

-- "gives the lowest free slot, or none .., and the number unpacked"
unfoldable pub free_search : List ℕ → FreeSearch
free_search t = record { place = lowest free_slot t; unpacked = slots_unpacked (lowest free_slot t) t }

unfoldable pub free_found : Option ℕ → ℕ → Outcome FreeAnswer
free_found (Some k) n = (Ok (free.Lowest k n))
free_found None n = (Ok (free.Full n))

-- "The search, also a call (refusal 2)"
unfoldable pub free_answered : List ℕ → Outcome FreeAnswer
free_answered t =
    settled Err
    (check (table_good t) TableLengthBad
    (Ok (free_found (free_search t).place (free_search t).unpacked)))

-- ---- what holds of it

abbrev pub IsFree : ℕ → List ℕ → Type 0
IsFree k t = unpacked (slot_at k t) ≡ Free

-- slot k is free, no lower one is, and the slots of state 0 up to it, with it, were unpacked
pub record FoundAt (t : List ℕ) (k : ℕ) : Type 0 where
  pub within : k < slots_of t
  pub free : IsFree k t
  pub lowest : (j : ℕ) → j < k → IsFree j t → ⊥
  pub counted : (free_search t).unpacked ≡ count_slots state_free 0 (suc k) t

-- no slot is free, and all slots of state 0 were unpacked
pub record FoundNowhere (t : List ℕ) : Type 0 where
  pub none : (j : ℕ) → j < slots_of t → IsFree j t → ⊥
  pub counted : (free_search t).unpacked ≡ count_slots state_free 0 (slots_of t) t

pub record SearchFinds (t : List ℕ) : Type 0 where
  pub found : (k : ℕ) → (free_search t).place ≡ Some k → FoundAt t k
  pub nowhere : (free_search t).place ≡ None → FoundNowhere t
  -- "none exactly if none is free"
  pub only_then : ((j : ℕ) → j < slots_of t → IsFree j t → ⊥) → (free_search t).place ≡ None

abbrev pub FreeSlotFound : Type 0
FreeSlotFound = (t : List ℕ) → SearchFinds t
