use Prim.Native.Nat.{◌≤◌}
use mathlib.Core.Path.{◌≡◌}
use lib.ListN.{length}
use Rattle.replay.proofs.replay.Given as goal

abbrev pub invariant-loop : goal.invariant-loop
invariant-loop g l = (l.size ≤ length l.initial.table) × ((length l.body ≡ length l.initial.body) × ((length l.table ≡ length l.initial.table) × (length l.area ≡ length l.initial.area)))
