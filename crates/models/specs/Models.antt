-- The flush of a model: the same definitions at the types that it implements; and messages one after another.
-- Assumes nothing.
use Rattle.std.specs.Prelude.{ℕ, List, [], ◌∷◌, Ok, Err}
use Rattle.numbers.specs.Result.{check, and_then, settled, Outcome}
use Rattle.numbers.specs.After.{OnTable, on_table}
use Rattle.table.specs.Slots.{table_good}
use Rattle.flush.specs.Payload.{Types, types_of}
use Rattle.flush.specs.Flush.{clearing, answered}
use Rattle.flush.specs.declared.Model.TheVariants.{Full, VlanOnly}
use Rattle.numbers.specs.declared.refusals.Refusal.TheVariants.{TableLengthBad}

-- "Our smaller model implements types 1, 2 and 6 and skips all others as unknown; all MACs are meant": no MAC is gathered
abbrev pub small_types : Types
small_types k = types_of VlanOnly k

abbrev pub full_types : Types
full_types k = types_of Full k

-- the flush call of a model: 2, then 15
unfoldable pub flushed_by : Types → ℕ → List ℕ → List ℕ → OnTable (Outcome ℕ)
flushed_by types ingress l t =
    settled (λ n. on_table (Err n) t)
    (check (table_good t) TableLengthBad
    (and_then (clearing types ingress l t) λ c. Ok (answered c)))

-- the flush call of the small model
abbrev pub flushed_vlan_only : ℕ → List ℕ → List ℕ → OnTable (Outcome ℕ)
flushed_vlan_only = flushed_by small_types

-- a flush message: the header's ingress nickname, the payload
pub record Message : Type 0 where
  pub ingress : ℕ
  pub payload : List ℕ

-- the table after a list of messages, nothing else done to it
unfoldable pub flushes_by : Types → List Message → List ℕ → List ℕ
flushes_by types [] t = t
flushes_by types (m ∷ ms) t = flushes_by types ms (flushed_by types m.ingress m.payload t).table
