use Prim.Native.Nat.{◌+◌, ◌*◌}
use Rattle.flush_nicknames.specs.First.{round_slots, FirstNamed}
use Rattle.flush_nicknames.proofs.first_round.Given as goal

abbrev pub invariant-loop-r : goal.invariant-loop-r
invariant-loop-r g l = FirstNamed (g.N.NameTest.names l.n) l.t l.from l.e (l.from + round_slots * l.r)
