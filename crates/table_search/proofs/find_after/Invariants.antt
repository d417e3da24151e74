use Prim.Native.Nat.{◌≤◌, ◌-◌}
use mathlib.Core.Path.{◌≡◌}
use Rattle.table.specs.Slots.{first_slot}
use Rattle.table.specs.Record.{label_from}
use Rattle.table.specs.Table.{holds}
use Rattle.table_search.proofs.find_after.Given as goal
use Rattle.std.specs.Prelude.{None}

abbrev pub invariant-loop-i : goal.invariant-loop-i
invariant-loop-i l = (l.i ≤ l.n) × (first_slot (holds (label_from l.kind l.label) l.mac) l.i l.t ≡ None)

abbrev pub decreases-loop-i : goal.decreases-loop-i
decreases-loop-i l = l.n - l.i
