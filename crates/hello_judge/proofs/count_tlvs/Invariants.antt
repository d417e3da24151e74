use Rattle.hello_judge.specs.Counting.{walked, tlv_counting, nothing, total}
use Rattle.hello.specs.Tlvs.{tlvs}
use lib.ListN.{length, drop}
use mathlib.Core.Path.{◌≡◌}
use Prim.Native.Nat.{◌-◌, ◌≤◌}
use Rattle.hello_judge.proofs.count_tlvs.Given as goal

abbrev pub invariant-loop-at : goal.invariant-loop-at
invariant-loop-at l = (l.at ≤ length l.l) × ((walked tlv_counting nothing (tlvs l.l) ≡ walked tlv_counting l.c (tlvs (drop l.at l.l))) × (total l.c ≤ l.at))

abbrev pub decreases-loop-at : goal.decreases-loop-at
decreases-loop-at l = length l.l - l.at
