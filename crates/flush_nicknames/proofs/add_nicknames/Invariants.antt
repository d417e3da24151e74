use Prim.Native.Nat.{◌*◌}
use Rattle.flush_sets.proofs.Adding.{names, Going}
use Rattle.flush_nicknames.proofs.add_nicknames.Given as goal

abbrev pub invariant-loop-i : goal.invariant-loop-i
invariant-loop-i l = Going 2 names l.nicks l.initial.s l.s (2 * l.i)
