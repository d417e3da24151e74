-- One pass over the table for learning: all that is asked of the pair's records, collected slot by slot.
-- Assumes nothing.
use Rattle.std.specs.Prelude.{ℕ, zero, suc, ◌+◌, Bool, false, List, Option, Some, None}
use Rattle.numbers.specs.Tests.{pick, either}
use Rattle.table.specs.Record.{unpacked, entry_matches, unmarked_matches, marked_matches, learned_that, configured_that, slot_that}
use Rattle.table.specs.Slots.{slot_at, or_else}
use Rattle.table.specs.declared.Entry.{Entry}
use Rattle.table.specs.declared.Slot.{Slot}
use Rattle.table_homes.specs.declared.Homes.{Homes}

-- of no slot
unfoldable pub no_homes : Homes
no_homes = record { configured = false; unmarked = None; marked = None; lowest = None; count = 0 }

-- the lowest place so far, or slot k if it passes
abbrev pub or_here : Option ℕ → ℕ → Bool → Option ℕ
or_here p k hit = or_else p (pick hit (Some k) None)

-- with what slot k holds
unfoldable pub with_slot : Entry → ℕ → Slot → Homes → Homes
with_slot e k s h = record {
  configured = either h.configured (configured_that (entry_matches e.label e.mac) s);
  unmarked = or_here h.unmarked k (learned_that (unmarked_matches e.label e.mac) s);
  marked = or_here h.marked k (learned_that (marked_matches e.label e.mac e.nickname) s);
  lowest = or_here h.lowest k (slot_that (entry_matches e.label e.mac) s);
  count = h.count + pick (slot_that (entry_matches e.label e.mac) s) 1 0;
}

-- of the first n slots
unfoldable pub homes_to : Entry → ℕ → List ℕ → Homes
homes_to e zero t = no_homes
homes_to e (suc n) t = with_slot e n (unpacked (slot_at n t)) (homes_to e n t)
