-- `flush_payload::pass_empty` meets its contract. The invariant is the contract: what lies before `at` is passed over.
use Prim.Native.Nat.{◌-◌}
use Rattle.flush_payload.proofs.Judging.{pass_start, pass_next}
use Rattle.flush_payload.proofs.pass_empty.Goals as goal

pub loop-at-init : goal.loop-at-init
loop-at-init c = search pass_start

pub loop-at-preserved : goal.loop-at-preserved
loop-at-preserved c = search pass_next
