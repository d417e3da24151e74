-- The pairs from `from` to `i` answer nothing, or `f` is the answer.
use Rattle.std.proofs.Common.{◌≡◌, length, drop, ◌-◌}
use Rattle.port_map_pairs.specs.Scan.{scanned, or_else}
use Rattle.port_map_pairs.proofs.scan.Given as goal

abbrev pub invariant-loop-f : goal.invariant-loop-f
invariant-loop-f l = scanned l.q (drop l.fn.from l.map) ≡ or_else l.f (scanned l.q (drop l.i l.map))

abbrev pub decreases-loop-f : goal.decreases-loop-f
decreases-loop-f l = length l.map - l.i
