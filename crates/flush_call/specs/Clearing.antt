-- A flush over a range of slots, and what clearing leaves.
-- Assumes nothing.
use Rattle.std.specs.Prelude.{ℕ, Bool, not, List, Ok, Err}
use Rattle.numbers.specs.Tests.{either}
use Rattle.numbers.specs.Result.{Outcome, and_then}
use Rattle.numbers.specs.After.{OnTable, on_table, table_as}
use Rattle.flush.specs.Payload.{Types, Piece, Payload, pieces_of, payload_of}
use Rattle.flush.specs.Flush.{slot_meant}
use Rattle.flush_marks.specs.Marks.{swept_in}
use Rattle.flush_marks.specs.Filters.{fine_slot}
use Rattle.flush_marks.specs.declared.Sweep.{Sweep}

-- the bytes of the nicknames, K-VLBs and the bytes behind it
abbrev pub payload_from : List ℕ → ℕ → List ℕ → Payload
payload_from nicks blocks rest = record { nicks = nicks; pieces = pieces_of blocks rest }

-- what is left to test of a fine-grained label where some may be meant
unfoldable pub fine_left : Bool → List Piece → List ℕ → Bool
fine_left fine ps r = either (not fine) (fine_slot ps r)

-- the whole payload is judged, and then `count` slots from slot `from` on are cleared; every one of them is examined
unfoldable pub sweeping_in : Types → ℕ → List ℕ → ℕ → ℕ → List ℕ → Outcome (OnTable Sweep)
sweeping_in types ingress l from count t = and_then (payload_of types l) λ p. Ok (swept_in (slot_meant types p ingress) from count t)

-- what a call leaves of the table t: the refusal changes nothing
unfoldable pub cleared_on : {A : Type 0} → List ℕ → Outcome (OnTable A) → OnTable (Outcome A)
cleared_on t (Err n) = on_table (Err n) t
cleared_on t (Ok c) = table_as Ok c
