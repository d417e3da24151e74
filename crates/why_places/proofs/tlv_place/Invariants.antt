use Prim.Native.Nat.{◌-◌, ◌≤◌}
use mathlib.Core.Bool.{Bool}
use mathlib.Core.Path.{◌≡◌}
use lib.ListN.{length, drop}
use Rattle.flush.specs.Payload.{Piece, tlvs}
use Rattle.why_places.specs.Found.{first_from}
use Rattle.why_places.specs.Reading.{Asks}
use Rattle.why_places.proofs.tlv_place.Given as goal

abbrev pub invariant-loop-at : goal.invariant-loop-at
invariant-loop-at g l = (l.at ≤ length l.l) × ((l.tlv ≤ l.at) × ((ask : Piece → Bool) → Asks g.F.Fn l.brings ask → first_from ask 0 (tlvs l.l) ≡ first_from ask l.tlv (tlvs (drop l.at l.l))))

abbrev pub decreases-loop-at : goal.decreases-loop-at
decreases-loop-at g l = length l.l - l.at
