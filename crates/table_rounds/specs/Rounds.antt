-- What a round over several slots excludes.
-- Assumes nothing.
use Rattle.std.specs.Prelude.{ℕ, ◌+◌, ◌*◌, ◌/◌, ◌^◌, ◌<◌, ◌≤◌, List, ◌≡◌, drop}
use Rattle.table.specs.Record.{record_of, state_of, mac_of}
use Rattle.table.specs.Slots.{slot_bytes}
use Rattle.table_fields.specs.Keys.{round_key_of}

-- a slot with this key of a round; a slot with these state bits, good or not
abbrev pub Keyed : ℕ → List ℕ → Type 0
Keyed key r = round_key_of (mac_of (record_of r)) ≡ key

abbrev pub InState : ℕ → List ℕ → Type 0
InState state r = state_of (record_of r) ≡ state

abbrev pub InOther : ℕ → List ℕ → Type 0
InOther state r = InState state r → ⊥

-- a slot whose first four bytes are 0
abbrev pub Blank : List ℕ → Type 0
Blank r = record_of r / 2 ^ 80 ≡ 0

-- the bytes of four slots
abbrev pub four_slots : ℕ
four_slots = 4 * slot_bytes

-- none of the four slots at an offset is such
pub record NoneOfFour (P : List ℕ → Type 0) (at : ℕ) (t : List ℕ) : Type 0 where
  pub first : P (drop at t) → ⊥
  pub second : P (drop (at + slot_bytes) t) → ⊥
  pub third : P (drop (at + 2 * slot_bytes) t) → ⊥
  pub fourth : P (drop (at + 3 * slot_bytes) t) → ⊥

-- no slot from slot `from` up to slot `to` is such
abbrev pub Passed : (List ℕ → Type 0) → ℕ → ℕ → List ℕ → Type 0
Passed P from to t = (k : ℕ) → from ≤ k → k < to → P (drop (slot_bytes * k) t) → ⊥
