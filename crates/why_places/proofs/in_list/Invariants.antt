use Prim.Native.Nat.{◌-◌, ◌<◌, ◌≤◌}
use mathlib.Core.Path.{◌≡◌}
use lib.ListN.{length}
use Rattle.numbers.specs.Numberings.{in_list}
use Rattle.flush_members.specs.Sound.{numbering}
use Rattle.why_places.specs.Reading.{left_has}
use Rattle.why_places.proofs.in_list.Given as goal

abbrev pub invariant-loop-at : goal.invariant-loop-at
invariant-loop-at l = (0 < l.size) × ((l.at ≤ length l.v) × (in_list (numbering l.size l.modulus l.low l.high) l.x l.v ≡ left_has (numbering l.size l.modulus l.low l.high) l.x l.v l.at))

abbrev pub decreases-loop-at : goal.decreases-loop-at
decreases-loop-at l = length l.v - l.at
