use Rattle.hello_fill.proofs.Walks.{rest}
use Rattle.hello_fill.specs.Filling.{tlv_words, filling, Room}
use Rattle.hello_judge.specs.Counting.{walked}
use Rattle.hello.specs.Tlvs.{tlvs}
use Rattle.numbers.specs.After.{on_area}
use lib.ListN.{length, drop}
use mathlib.Core.Path.{◌≡◌}
use Prim.Native.Nat.{◌-◌, ◌≤◌}
use Rattle.hello_fill.proofs.fill_tlvs.Given as goal

abbrev pub invariant-loop-at : goal.invariant-loop-at
invariant-loop-at g l = (l.at ≤ length l.l) × ((length l.out ≡ length l.initial.out) × (Room (rest (tlv_words g.row.FIRST) l.l l.at) (rest (tlv_words g.row.SECOND) l.l l.at) l.p (length l.initial.out) × (walked (filling (tlv_words g.row.FIRST) (tlv_words g.row.SECOND)) (on_area l.initial.p l.initial.out) (tlvs l.l) ≡ walked (filling (tlv_words g.row.FIRST) (tlv_words g.row.SECOND)) (on_area l.p l.out) (tlvs (drop l.at l.l)))))

abbrev pub decreases-loop-at : goal.decreases-loop-at
decreases-loop-at g l = length l.l - l.at
