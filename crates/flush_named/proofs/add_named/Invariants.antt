use Prim.Native.Nat.{◌-◌, ◌≤◌}
use lib.ListN.{length, drop}
use Rattle.flush.specs.Payload.{tlvs}
use Rattle.flush_parts.specs.Named.{named_of}
use Rattle.flush_named.proofs.Laws.{Adding}
use Rattle.flush_named.proofs.add_named.Given as goal

abbrev pub invariant-loop-at : goal.invariant-loop-at
invariant-loop-at l = (l.at ≤ length l.l) × Adding (named_of l.naming (tlvs l.l)) (named_of l.naming (tlvs (drop l.at l.l))) l.initial.bits l.bits

abbrev pub decreases-loop-at : goal.decreases-loop-at
decreases-loop-at l = length l.l - l.at
