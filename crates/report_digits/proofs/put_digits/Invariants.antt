use Rattle.report_digits.proofs.Laws.{Putting}
use Rattle.report_digits.proofs.put_digits.Given as goal

abbrev pub invariant-loop-i : goal.invariant-loop-i
invariant-loop-i g l = Putting g.row.BASE l.n l.k l.at l.initial.out l.out l.left l.i
