-- `flush_keys::keep_others` meets its contract. The invariant: what is marked and the slots from `i` on make up the whole.
use native.Mathlib.Omega.{arith}
use Rattle.flush_keys.proofs.Fields.{slot_room, slot_few}
use Rattle.flush_keys.proofs.Marking.{joining_start, without_none, without_passed, without_added, joining_done}
use Rattle.flush_keys.proofs.keep_others.Goals as goal
use Rattle.flush_keys.proofs.keep_others.Goals.{then-not-applies_at, else-not-applies_at}

pub returns-in_default : goal.returns-in_default
returns-in_default c = without_none _ _ _ _ c.in_default.is

pub loop-j-init : goal.loop-j-init
loop-j-init c = search joining_start

pub overflow_mul-k : goal.overflow_mul-k
overflow_mul-k c = omega (arith, slot_few _ _ c.loop-j.j-index c.requires.0 (omega arith))

pub applies_at-requires : goal.applies_at-requires
applies_at-requires c = search slot_room

pub add_if-requires : goal.add_if-requires
add_if-requires c = omega (arith, slot_few _ _ c.loop-j.j-index c.requires.0 (omega arith))

pub loop-j-preserved : goal.loop-j-preserved
loop-j-preserved c =
    elim c.if-not-applies_at.branch [
      | then-not-applies_at w ↦ rw w.marks-is (without_added _ _ _ _ _ _ c.loop-j.invariant (omega arith) _ c.applies_at.ensures w.if-not-applies_at.true _ w.add_if.ensures)
      | else-not-applies_at w ↦ rw w.marks-is (without_passed _ _ _ _ _ _ c.loop-j.invariant (omega arith) _ c.applies_at.ensures w.if-not-applies_at.false)
    ]

pub returns : goal.returns
returns c = search joining_done
