use Prim.Native.Nat.{◌-◌}
use lib.ListN.{length}
use Rattle.flush_vlans.proofs.Laws.{Walking}
use Rattle.flush_vlans.proofs.add_tlvs.Given as goal

abbrev pub invariant-loop-at : goal.invariant-loop-at
invariant-loop-at l = Walking l.l l.initial.s l.s l.at

abbrev pub decreases-loop-at : goal.decreases-loop-at
decreases-loop-at l = length l.l - l.at
