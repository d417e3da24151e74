-- The key of a slot: twice its nickname, and one more if it is configured; those of free and spoilt slots lie past all of them.
-- Assumes nothing.
use Rattle.std.specs.Prelude.{ℕ, zero, suc, ◌+◌, ◌*◌, List, [], ◌∷◌, ◌++◌, eqb}
use Rattle.numbers.specs.Tests.{pick}
use Rattle.table.specs.Record.{unpacked}
use Rattle.table.specs.Slots.{slot_at}
use Rattle.table.specs.declared.Slot.{Slot}
use Rattle.table.specs.declared.Slot.TheVariants.{Free, Spoilt, Learned, Configured}
use Rattle.report.specs.Report.{nickname_end}

abbrev pub free_key : ℕ
free_key = 2 * nickname_end

abbrev pub spoilt_key : ℕ
spoilt_key = 2 * nickname_end + 1

abbrev pub key_of : Slot → ℕ
key_of Free = free_key
key_of Spoilt = spoilt_key
key_of (Learned e) = e.nickname * 2
key_of (Configured e) = e.nickname * 2 + 1

-- the keys of the first n slots
unfoldable pub keys_to : ℕ → List ℕ → List ℕ
keys_to zero t = []
keys_to (suc n) t = keys_to n t ++ key_of (unpacked (slot_at n t)) ∷ []

-- how often a number stands in a list
unfoldable pub times_in : ℕ → List ℕ → ℕ
times_in k [] = 0
times_in k (x ∷ xs) = pick (eqb x k) 1 0 + times_in k xs
