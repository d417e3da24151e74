use Prim.Native.Nat.{◌≤◌}
use Rattle.port_map_judge.proofs.Laws.{MarkedTwice}
use Rattle.port_map_judge.proofs.labels_noted_twice.Given as goal

abbrev pub invariant-loop-i : goal.invariant-loop-i
invariant-loop-i l = MarkedTwice l.map l.i l.low l.high × (l.doubts ≤ 65)
