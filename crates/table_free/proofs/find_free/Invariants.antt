use Prim.Native.Nat.{◌≤◌, ◌-◌}
use mathlib.Core.Path.{◌≡◌}
use Rattle.table.specs.Slots.{first_slot, count_slots}
use Rattle.table.specs.FreeSlot.{state_free}
use Rattle.table.specs.Learning.{free_slot}
use Rattle.table_free.proofs.find_free.Given as goal
use Rattle.std.specs.Prelude.{None}

abbrev pub invariant-loop-j : goal.invariant-loop-j
invariant-loop-j l = (l.j ≤ l.n) × ((l.unpacked ≡ count_slots state_free 0 l.j l.t) × (first_slot free_slot l.j l.t ≡ None))

abbrev pub decreases-loop-j : goal.decreases-loop-j
decreases-loop-j l = l.n - l.j
