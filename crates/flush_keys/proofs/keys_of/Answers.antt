-- `flush_keys::keys_of` meets its contract. The invariant: the first `n` keys and the slots from `i` on make up the whole.
use Prim.Native.Nat.{◌-◌}
use mathlib.Core.Path.{refl}
use native.Mathlib.Omega.{arith}
use Rattle.flush_keys.proofs.Fields.{slot_room, slot_few}
use Rattle.flush_keys.proofs.Making.{applies_at, making_start, keys_next, making_done}
use borrow.Author.Rules.{rules}
use Rattle.flush_keys.proofs.keys_of.Goals as goal

pub loop-i-init : goal.loop-i-init
loop-i-init c = (refl, search making_start)

pub overflow_mul-at : goal.overflow_mul-at
overflow_mul-at c = omega (arith, slot_room _ _ c.loop-i.i c.requires.0 (omega arith), slot_few _ _ c.loop-i.i c.requires.0 (omega arith))

pub number_at-x-requires : goal.number_at-x-requires
number_at-x-requires c = slot_room _ _ _ c.requires.0 (omega arith)

pub overflow_add-keys : goal.overflow_add-keys
overflow_add-keys c = omega (arith, slot_room _ _ c.loop-i.i c.requires.0 (omega arith), slot_few _ _ c.loop-i.i c.requires.0 (omega arith))

pub applies_at-requires : goal.applies_at-requires
applies_at-requires c = slot_room _ _ _ c.requires.0 (omega arith)

pub loop-i-preserved : goal.loop-i-preserved
loop-i-preserved c = (search rules, keys_next _ _ _ _ c.requires.0 _ _ _ c.loop-i.invariant.1 (omega arith) (omega arith) _ c.number_at-x.ensures _ c.applies_at.ensures _ c.has_bit.ensures _ c.one-n.ensures)

pub returns : goal.returns
returns c = making_done _ _ _ _ _ _ _ c.loop-i.invariant.1 (omega arith)
