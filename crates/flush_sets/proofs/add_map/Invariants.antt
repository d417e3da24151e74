use Rattle.flush_sets.proofs.Maps.{Mapping}
use Rattle.flush_sets.proofs.add_map.Given as goal

abbrev pub invariant-loop-m : goal.invariant-loop-m
invariant-loop-m l = Mapping l.v l.initial.s l.s l.n l.m-index
