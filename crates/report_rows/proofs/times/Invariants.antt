use Prim.Native.Nat.{◌≤◌, ◌+◌, ◌*◌}
use mathlib.Core.Path.{◌≡◌}
use lib.ListN.{length, take}
use Rattle.report_tally.specs.Tallies.{tally_unit, tallied}
use Rattle.report_rows.proofs.times.Given as goal

abbrev pub invariant-loop-i : goal.invariant-loop-i
invariant-loop-i l = (l.n + l.i * tally_unit ≤ length l.v * tally_unit) × (l.n + tallied l.k (take l.i l.v) ≡ tallied l.k l.v)
