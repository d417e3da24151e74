use Rattle.flush_keys.proofs.Marking.{Joining, without}
use Rattle.flush_keys.proofs.keep_others.Given as goal

abbrev pub invariant-loop-j : goal.invariant-loop-j
invariant-loop-j l = Joining (without l.field l.table) l.slots l.initial.marks l.j-index l.marks
