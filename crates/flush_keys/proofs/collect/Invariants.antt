use Rattle.flush_keys.proofs.Marking.{Collecting}
use Rattle.flush_keys.proofs.collect.Given as goal

abbrev pub invariant-loop-i : goal.invariant-loop-i
invariant-loop-i l = Collecting l.keys l.hits l.initial.marks l.i l.marks
