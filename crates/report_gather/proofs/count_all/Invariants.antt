use Prim.Native.Nat.{◌≤◌, ◌+◌}
use mathlib.Core.List.{◌++◌}
use lib.ListN.{length, take}
use Rattle.report_keys.specs.Keys.{keys_to}
use Rattle.report_tally.specs.Tallies.{Tallies}
use Rattle.report_set.specs.Set.{set_tallies}
use Rattle.report_gather.proofs.count_all.Given as goal

abbrev pub invariant-loop-i : goal.invariant-loop-i
invariant-loop-i l = (l.n + length (set_tallies 0 l.s) ≤ l.i) × Tallies (keys_to l.i l.table) (take l.n l.tallies ++ set_tallies 0 l.s)
