-- Widening a table of document 01, whose records have no mark (document 02, "An older table is widened by a call").
-- Assumes nothing.
use Rattle.std.specs.Prelude.{ℕ, zero, suc, ◌*◌, ◌/◌, ◌%◌, Bool, List, [], ◌∷◌, ◌++◌, eqb, leb, length, take, drop, Ok, Err}
use Rattle.numbers.specs.Tests.{both, between}
use Rattle.numbers.specs.Result.{check, settled, Outcome}
use Rattle.numbers.specs.After.{OnArea, on_area}
use Rattle.numbers.specs.Bytes.{laid}
use Rattle.table.specs.Record.{record_bytes}
use Rattle.table.specs.Slots.{slot_bytes, most_slots}
use Rattle.numbers.specs.declared.refusals.Refusal.TheVariants.{TableLengthBad, AreaShort}

-- "2 by the old lengths": 0, not a multiple of 14, or over 57,344
unfoldable pub old_good : List ℕ → Bool
old_good old = both (between 1 (record_bytes * most_slots) (length old)) (eqb (length old % record_bytes) 0)

abbrev pub old_slots : List ℕ → ℕ
old_slots old = length old / record_bytes

-- record k of the old table
abbrev pub old_at : ℕ → List ℕ → List ℕ
old_at k old = take record_bytes (drop (record_bytes * k) old)

-- "copies each record and adds a zero byte": the first n records
unfoldable pub widened_to : ℕ → List ℕ → List ℕ
widened_to zero old = []
widened_to (suc n) old = widened_to n old ++ (old_at n old ++ 0 ∷ [])

unfoldable pub wide : List ℕ → List ℕ
wide old = widened_to (old_slots old) old

-- the call: 2, then 16
unfoldable pub widened : List ℕ → List ℕ → OnArea (Outcome ℕ)
widened old area =
    settled (λ n. on_area (Err n) area)
    (check (old_good old) TableLengthBad
    (check (leb (slot_bytes * old_slots old) (length area)) AreaShort
    (Ok (on_area (Ok (slot_bytes * old_slots old)) (laid (wide old) area)))))
