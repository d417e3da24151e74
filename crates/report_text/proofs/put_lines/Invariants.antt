use Prim.Native.Nat.{◌≤◌, ◌-◌}
use mathlib.Core.Path.{◌≡◌}
use lib.ListN.{length}
use Rattle.frame_copy.specs.Areas.{pasted}
use Rattle.report_rows.specs.Rows.{lines_text}
use Rattle.report_text.proofs.Laws.{SoLong}
use Rattle.report_text.proofs.put_lines.Given as goal

abbrev pub invariant-loop-i : goal.invariant-loop-i
invariant-loop-i l = (l.i ≤ length l.v) × ((length l.out ≡ length l.initial.out) × ((so : SoLong l.v l.at l.i) × (l.out ≡ pasted l.initial.out 0 (lines_text so.below l.v))))

abbrev pub decreases-loop-i : goal.decreases-loop-i
decreases-loop-i l = length l.v - l.i
