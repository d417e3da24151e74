use Rattle.hello_judge.specs.Counting.{past_empty}
use Rattle.hello.specs.Tlvs.{tlvs}
use lib.ListN.{drop}
use mathlib.Core.Path.{◌≡◌}
use Prim.Native.Nat.{◌+◌, ◌*◌}
use Rattle.hello_judge.proofs.past_empty.Given as goal

abbrev pub invariant-loop-i : goal.invariant-loop-i
invariant-loop-i l = past_empty (tlvs (drop l.start l.l)) ≡ past_empty (tlvs (drop (l.start + 2 * l.i) l.l))
