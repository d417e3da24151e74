use Rattle.port_map_judge.proofs.Laws.{Seen}
use Rattle.port_map_judge.proofs.vlans_noted.Given as goal

abbrev pub invariant-loop-i : goal.invariant-loop-i
invariant-loop-i l = Seen l.map l.i l.seen
