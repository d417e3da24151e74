use Rattle.port_map_judge.proofs.Laws.{Marked}
use Rattle.port_map_judge.proofs.labels_noted.Given as goal

abbrev pub invariant-loop-i : goal.invariant-loop-i
invariant-loop-i l = Marked l.map l.i l.met
