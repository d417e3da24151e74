use Rattle.flush_keys.proofs.Marking.{Noting}
use Rattle.flush_keys.proofs.note.Given as goal

abbrev pub invariant-loop-key : goal.invariant-loop-key
invariant-loop-key l = Noting l.keys l.bits l.key-index
