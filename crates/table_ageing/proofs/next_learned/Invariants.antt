use Prim.Native.Nat.{◌-◌, ◌/◌, ◌%◌, ◌≤◌}
use mathlib.Core.Path.{◌≡◌}
use Rattle.table.specs.Record.{learned_state}
use Rattle.table.specs.Slots.{slot_bytes}
use Rattle.table_rounds.specs.Rounds.{InState, Passed}
use Rattle.table_ageing.proofs.next_learned.Given as goal

abbrev pub invariant-loop-a : goal.invariant-loop-a
invariant-loop-a l = (l.a % slot_bytes ≡ 0) × ((l.from ≤ l.a) × ((l.a ≤ l.n) × Passed (InState learned_state) (l.from / slot_bytes) (l.a / slot_bytes) l.t))

abbrev pub decreases-loop-a : goal.decreases-loop-a
decreases-loop-a l = l.n - l.a
