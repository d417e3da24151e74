use Rattle.hello_judge.specs.Counting.{walked, sub_counting, total}
use Rattle.hello.specs.Tlvs.{tlvs}
use lib.ListN.{length, drop}
use mathlib.Core.Path.{◌≡◌}
use Prim.Native.Nat.{◌+◌, ◌-◌, ◌≤◌}
use Rattle.hello_judge.proofs.count_subs.Given as goal

abbrev pub invariant-loop-at : goal.invariant-loop-at
invariant-loop-at g l = (l.at ≤ length l.l) × ((walked (sub_counting g.row.HOLDER) l.initial.c (tlvs l.l) ≡ walked (sub_counting g.row.HOLDER) l.c (tlvs (drop l.at l.l))) × (total l.c ≤ total l.initial.c + l.at))

abbrev pub decreases-loop-at : goal.decreases-loop-at
decreases-loop-at g l = length l.l - l.at
