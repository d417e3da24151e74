use mathlib.Core.Path.{◌≡◌}
use lib.ListN.{length}
use Rattle.flush_marks.specs.Marks.{freed_from}
use Rattle.flush_marks.proofs.clear_run.Given as goal

abbrev pub invariant-loop-i : goal.invariant-loop-i
invariant-loop-i l = (length l.table ≡ length l.initial.table) × (l.table ≡ freed_from l.k l.i l.initial.table)
