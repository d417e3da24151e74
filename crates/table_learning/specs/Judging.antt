-- What judging a record of a pair needs to know.
-- Assumes nothing.
use Rattle.std.specs.Prelude.{ℕ, ◌<◌, Bool, true, false, List, ◌≡◌}
use Rattle.numbers.specs.Tests.{pick}
use Rattle.table.specs.Slots.{slots_of, slot_at, on_slots}
use Rattle.table.specs.Table.{holds}
use Rattle.table.specs.Learning.{cleared_pair}
use Rattle.table.specs.declared.Entry.{Entry}
use Rattle.table_homes.specs.Pass.{homes_to}

-- the table as it was, or without the pair's learned records
unfoldable pub room_if : Bool → Entry → List ℕ → List ℕ
room_if enough e t = pick enough t (on_slots (cleared_pair e) 0 (slots_of t) t)

-- no slot below slot k holds the pair
abbrev pub NoneBelow : Entry → ℕ → List ℕ → Type 0
NoneBelow e k t = (j : ℕ) → j < k → holds e.label e.mac (slot_at j t) ≡ false

-- slot k holds the pair, and so many slots do; where the entry is unmarked it is the lowest
pub record Judges (e : Entry) (k count : ℕ) (t : List ℕ) : Type 0 where
  pub within : k < slots_of t
  pub hit : holds e.label e.mac (slot_at k t) ≡ true
  pub counted : count ≡ (homes_to e (slots_of t) t).count
  pub below : e.multihomed ≡ false → NoneBelow e k t
