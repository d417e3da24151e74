use Prim.Native.Nat.{◌+◌, ◌*◌, ◌≤◌}
use mathlib.Core.List.{◌++◌}
use mathlib.Core.Path.{◌≡◌}
use lib.ListN.{length, take, drop}
use Rattle.report_set.specs.Set.{word_bits, set_tallies}
use Rattle.report_set.proofs.list.Given as goal

abbrev pub invariant-loop-i : goal.invariant-loop-i
invariant-loop-i l = (l.i ≤ length l.s) × ((l.c + length (set_tallies (l.i * word_bits) (drop l.i l.s)) ≡ l.n + length (set_tallies 0 l.s)) × ((length l.out ≡ length l.initial.out) × (take l.c l.out ++ set_tallies (l.i * word_bits) (drop l.i l.s) ≡ take l.n l.initial.out ++ set_tallies 0 l.s)))
