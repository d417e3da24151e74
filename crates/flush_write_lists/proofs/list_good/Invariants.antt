use Prim.Native.Nat.{◌*◌}
use Rattle.flush_write_lists.proofs.Laws.{Judged}
use Rattle.flush_write_lists.proofs.list_good.Given as goal

abbrev pub invariant-loop-i : goal.invariant-loop-i
invariant-loop-i l = Judged l.k l.low l.high l.l (l.i * (2 * l.k)) l.good
