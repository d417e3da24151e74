use Prim.Native.Nat.{◌≤◌, ◌-◌}
use mathlib.Core.Path.{◌≡◌}
use lib.ListN.{length}
use Rattle.table.specs.Slots.{on_slots}
use Rattle.table.specs.Learning.{cleared_pair}
use Rattle.table_learning.proofs.clear_slots.Given as goal

abbrev pub invariant-loop-i : goal.invariant-loop-i
invariant-loop-i l = (l.i ≤ l.n) × ((length l.table ≡ length l.initial.table) × (l.table ≡ on_slots (cleared_pair l.e) 0 l.i l.initial.table))

abbrev pub decreases-loop-i : goal.decreases-loop-i
decreases-loop-i l = l.n - l.i
