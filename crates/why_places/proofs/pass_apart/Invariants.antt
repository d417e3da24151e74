use Prim.Native.Nat.{◌-◌, ◌≤◌}
use mathlib.Core.Path.{◌≡◌}
use lib.ListN.{length}
use Rattle.why_places.specs.Reading.{left_has}
use Rattle.why_places.proofs.pass_apart.Given as goal

abbrev pub invariant-loop-at : goal.invariant-loop-at
invariant-loop-at l = ((l.from ≤ l.at) × (l.at ≤ length l.v)) × (left_has l.w l.x l.v l.from ≡ left_has l.w l.x l.v l.at)

abbrev pub decreases-loop-at : goal.decreases-loop-at
decreases-loop-at l = length l.v - l.at
