use mathlib.Core.Path.{◌≡◌}
use Rattle.table.specs.Slots.{first_slot}
use Rattle.table.specs.Table.{spoilt_slot}
use Rattle.table_search.proofs.find_spoilt.Given as goal
use Rattle.std.specs.Prelude.{None}

abbrev pub invariant-loop-i : goal.invariant-loop-i
invariant-loop-i l = first_slot spoilt_slot l.i l.t ≡ None
