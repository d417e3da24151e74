use Prim.Native.Nat.{◌≤◌, ◌-◌, ◌/◌, ◌%◌}
use mathlib.Core.Path.{◌≡◌}
use lib.ListN.{length}
use Rattle.table.specs.Slots.{slot_bytes, on_slots}
use Rattle.table.specs.Table.{aged_slot}
use Rattle.table_ageing.proofs.age_slots.Given as goal

abbrev pub invariant-loop-a : goal.invariant-loop-a
invariant-loop-a l = (l.a % slot_bytes ≡ 0) × ((l.a ≤ l.n) × ((length l.table ≡ length l.initial.table) × (l.table ≡ on_slots (aged_slot l.s) 0 (l.a / slot_bytes) l.initial.table)))

abbrev pub decreases-loop-a : goal.decreases-loop-a
decreases-loop-a l = l.n - l.a
