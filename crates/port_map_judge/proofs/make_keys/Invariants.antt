use mathlib.Core.Path.{◌≡◌}
use lib.ListN.{length}
use Rattle.port_map_judge.proofs.Apart.{Making}
use Rattle.port_map_judge.proofs.make_keys.Given as goal

abbrev pub invariant-loop-i : goal.invariant-loop-i
invariant-loop-i l = (length l.keys ≡ length l.initial.keys) × Making l.map l.keys l.i
