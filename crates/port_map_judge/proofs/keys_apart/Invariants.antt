use Rattle.port_map_judge.proofs.Apart.{Near}
use Rattle.port_map_judge.proofs.keys_apart.Given as goal

abbrev pub invariant-loop-i : goal.invariant-loop-i
invariant-loop-i l = Near l.keys l.i
