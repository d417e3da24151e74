-- The pairs before `i` are good, or `good` is false.
use Rattle.std.proofs.Common.{◌≡◌, length, drop, ◌-◌}
use Rattle.numbers.specs.Tests.{both}
use Rattle.port_map_pairs.specs.Scan.{good_map}
use Rattle.port_map_pairs.proofs.map_good.Given as goal

abbrev pub invariant-loop-good : goal.invariant-loop-good
invariant-loop-good l = good_map l.map ≡ both l.good (good_map (drop l.i l.map))

abbrev pub decreases-loop-good : goal.decreases-loop-good
decreases-loop-good l = length l.map - l.i
