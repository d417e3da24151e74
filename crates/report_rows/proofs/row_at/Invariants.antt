use Rattle.report_rows.proofs.Laws.{SoFar}
use Rattle.report_rows.proofs.row_at.Given as goal

abbrev pub invariant-loop-j : goal.invariant-loop-j
invariant-loop-j l = SoFar l.v l.i l.x l.l l.c l.j
