-- "Frames may be learned in between: a passed slot stays, a later one is judged when reached": two worked instances. The sum is then not
-- the whole flush's; each portion is still exact in the table that it is given (PortionExact).
-- Assumes nothing.
use Rattle.std.specs.Prelude.{ℕ, false, List, [], ◌∷◌, ◌++◌, ◌≡◌, Ok}
use Rattle.numbers.specs.After.{OnTable, on_table}
use Rattle.table.specs.Record.{learned_state, configured_state, packed}
use Rattle.table.specs.Slots.{freed}
use Rattle.table.specs.Learning.{learnt}
use Rattle.table.specs.declared.Label.TheVariants.{Vlan}
use Rattle.table.specs.declared.Entry.{Entry}
use Rattle.table.specs.declared.Learning.TheVariants as learning
use Rattle.flush.specs.Flush.{flushed}
use Rattle.portions.specs.Portion.{portioned}
use Rattle.numbers.specs.Result.{Outcome}
use Rattle.portions.specs.declared.Portion.{Portion}

-- what is known of a station; learned, it is a record that the message means
abbrev pub station : ℕ → Entry
station mac = record { label = Vlan 10; mac = mac; nickname = 0x1234; confidence = 20; seconds = 300; multihomed = false }

abbrev pub entry : Entry
entry = station 0x0200_0000_0001

abbrev pub fresh : List ℕ
fresh = packed learned_state entry

-- a configured record of another station
abbrev pub fixed : List ℕ
fixed = packed configured_state (station 0x0200_0000_0002)

abbrev pub message : List ℕ
message = 0x00 ∷ 0x01 ∷ 0x00 ∷ 0x0A ∷ 0x00 ∷ 0x0A ∷ []

-- one slot from the slot on
abbrev pub one : ℕ → List ℕ → OnTable (Outcome Portion)
one slot t = portioned 0x1234 message slot 1 t

abbrev pub does : ℕ → ℕ → List ℕ → OnTable (Outcome Portion)
does cleared next t = on_table (Ok (record { cleared = cleared; next = next; examined = 1 })) t

-- learned into a slot that is still to come: cleared there. Sum 1, the whole flush at the start 0.
pub record Later : Type 0 where
  pub first : one 0 (fixed ++ freed) ≡ does 0 1 (fixed ++ freed)
  pub learns : learnt entry (fixed ++ freed) ≡ on_table learning.Learned (fixed ++ fresh)
  pub second : one 1 (fixed ++ fresh) ≡ does 1 2 (fixed ++ freed)
  pub whole : flushed 0x1234 message (fixed ++ freed) ≡ on_table (Ok 0) (fixed ++ freed)

-- learned into a slot that is passed: it stays. Sum 0, the whole flush at the end 1.
pub record Passed : Type 0 where
  pub first : one 0 (freed ++ fixed) ≡ does 0 1 (freed ++ fixed)
  pub learns : learnt entry (freed ++ fixed) ≡ on_table learning.Learned (fresh ++ fixed)
  pub second : one 1 (fresh ++ fixed) ≡ does 0 2 (fresh ++ fixed)
  pub whole : flushed 0x1234 message (fresh ++ fixed) ≡ on_table (Ok 1) (freed ++ fixed)
