use Rattle.flush_nicknames.specs.First.{FirstNamed}
use Rattle.flush_nicknames.proofs.first_named.Given as goal

abbrev pub invariant-loop-k : goal.invariant-loop-k
invariant-loop-k g l = FirstNamed (g.N.NameTest.names l.n) l.t l.from l.e l.k
