use mathlib.Core.Path.{◌≡◌}
use Rattle.table.specs.Widening.{widened_to}
use Rattle.frame_copy.specs.Areas.{pasted}
use Rattle.table_widening.proofs.widen_slots.Given as goal

abbrev pub invariant-loop-i : goal.invariant-loop-i
invariant-loop-i l = l.out ≡ pasted l.initial.out 0 (widened_to l.i l.old)
