-- `table_learning::clear_slots` meets its contract. The invariant: the first `i` slots are cleared, and the others as they were; slots below
-- the lowest of the pair and rounds without the key stay as they are.
use Prim.Native.Nat.{ℕ, ◌-◌, ◌+◌, ◌/◌}
use mathlib.Core.List.{List}
use mathlib.Core.Path.{◌≡◌, refl, ap, ◌∙◌}
use native.Mathlib.Omega.{arith}
use lib.ListN.{length}
use Rattle.table.specs.Slots.{slot_bytes, on_slots}
use Rattle.table.specs.Learning.{cleared_pair}
use Rattle.table.proofs.Slots.{length-on_slots, length_lent, on_step}
use Rattle.table.proofs.Apart.{cleared_keeps}
use Rattle.table_learning.proofs.Laws.{clear_below, clear_past}
use Rattle.table_learning.proofs.clear_slots.Goals as goal

pub loop-i-init : goal.loop-i-init
loop-i-init c =
    let a = c.args in
    (c.requires.1.0, (refl, clear_below a.e a.table.now a.from c.requires.1.0 c.requires.1.1))

pub slice_bounds-clear_slot-end : goal.slice_bounds-clear_slot-end
slice_bounds-clear_slot-end c = let long = c.loop-i.invariant.1.0 in omega arith

pub clear_slot-requires : goal.clear_slot-requires
clear_slot-requires c =
    let at = c.loop-i in
    let long = at.invariant.1.0 in
    (length_lent at.i at.table (omega arith), c.requires.0)

pub loop-i-preserved : goal.loop-i-preserved
loop-i-preserved c =
    let at = c.loop-i in
    let a = c.args in
    let t : List ℕ = a.table.now in
    let long = at.invariant.1.0 in
    let step = on_step (cleared_pair a.e) (cleared_keeps a.e) t 0 at.i at.i (omega arith) (omega arith) at.table at.invariant.1.1 c.clear_slot.new.slot c.clear_slot.ensures in
    let same = ap length step ∙ length-on_slots (cleared_pair a.e) (cleared_keeps a.e) t 0 (at.i + 1) (omega arith) in
    let to = c.next_keyed-i.ensures in
    let within = to.1.0 in
    (omega (arith, same, within), (same, clear_past a.e t _ (at.i + 1) step a.kind a.label c.requires.0.pair.kind_small c.requires.0.label_is _ c.round_key_of-round_key.ensures _ to.0 (omega (arith, same, within)) to.1.1))

pub shape_of-table : goal.shape_of-table
shape_of-table c = c.loop-i.invariant.1.0

pub returns : goal.returns
returns c =
    let a = c.args in
    let at = c.loop-i in
    let done : at.i ≡ length a.table.now / slot_bytes = omega arith in
    at.invariant.1.1 ∙ ap (λ (n : ℕ). on_slots (cleared_pair a.e) 0 n a.table.now) done
