use Rattle.numbers.specs.Numberings.{in_map}
use Rattle.flush_intervals.proofs.Hits.{Mapping}
use Rattle.flush_intervals.proofs.hit_map.Given as goal

abbrev pub invariant-loop-i : goal.invariant-loop-i
invariant-loop-i l = Mapping (λ x. in_map l.w x l.v) l.keys l.initial.hits l.i l.hits
