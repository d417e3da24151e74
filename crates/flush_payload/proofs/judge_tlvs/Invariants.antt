use Prim.Native.Nat.{◌-◌}
use lib.ListN.{length}
use Rattle.flush.specs.Payload.{types_of}
use Rattle.flush_payload.proofs.Judging.{Walked}
use Rattle.flush_payload.proofs.judge_tlvs.Given as goal

abbrev pub invariant-loop-at : goal.invariant-loop-at
invariant-loop-at l = Walked (types_of l.model) l.l l.at l.f

abbrev pub decreases-loop-at : goal.decreases-loop-at
decreases-loop-at l = length l.l - l.at
