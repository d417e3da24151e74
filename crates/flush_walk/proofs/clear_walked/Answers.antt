-- `flush_walk::clear_walked` meets its contract. The invariant: of the first `i` slots of the range those that are meant are cleared and
-- counted.
use Prim.Native.Nat.{◌+◌}
use mathlib.Core.Path.{refl}
use native.Mathlib.Omega.{arith}
use Rattle.table.proofs.Slots.{length_lent}
use Rattle.flush_walk.proofs.Laws.{noted_near, walked_none, walked_hit, walked_miss, walked_end}
use Rattle.flush_walk.proofs.clear_walked.Goals as goal
use Rattle.flush_walk.proofs.clear_walked.Goals.{then-meant_at, else-meant_at}

pub loop-i-init : goal.loop-i-init
loop-i-init c = (refl, walked_none _ (noted_near _ _ _ _) _ _)

pub overflow_add-a : goal.overflow_add-a
overflow_add-a c =
    let room = c.requires.0.room in
    omega arith

pub overflow_mul-a : goal.overflow_mul-a
overflow_mul-a c =
    let few = c.requires.0.few in
    let room = c.requires.0.room in
    omega arith

pub meant_at-requires : goal.meant_at-requires
meant_at-requires c =
    let room = c.requires.0.room in
    let long = c.loop-i.invariant.1.long in
    (c.requires.1, omega arith)

pub slice_bounds-clear-end : goal.slice_bounds-clear-end
slice_bounds-clear-end c =
    let room = c.requires.0.room in
    let long = c.loop-i.invariant.1.long in
    omega arith

pub clear-requires : goal.clear-requires
clear-requires c =
    let room = c.requires.0.room in
    let at = c.loop-i in
    let long = at.invariant.1.long in
    length_lent (c.args.from + at.i) at.table (omega arith)

pub overflow_add-cleared : goal.overflow_add-cleared
overflow_add-cleared c =
    let few = c.loop-i.invariant.1.few in
    omega arith

pub loop-i-preserved : goal.loop-i-preserved
loop-i-preserved c =
    let at = c.loop-i in
    let room = c.requires.0.room in (
      omega arith,
      elim c.if-meant_at.branch [
        | then-meant_at w ↦ rw (w.cleared-is, w.table-is) (walked_hit _ (noted_near _ _ _ _) _ _ _ _ _ at.invariant.1 (omega arith) _ c.meant_at.ensures w.if-meant_at.true _ w.clear.ensures)
        | else-meant_at w ↦ rw (w.cleared-is, w.table-is) (walked_miss _ (noted_near _ _ _ _) _ _ _ _ _ at.invariant.1 (omega arith) _ c.meant_at.ensures w.if-meant_at.false)
      ],
    )

pub shape_of-table : goal.shape_of-table
shape_of-table c = c.loop-i.invariant.1.long

pub returns : goal.returns
returns c = rw c.loop-i.invariant.0 (walked_end _ (noted_near _ _ _ _) _ _ _ _ _ c.loop-i.invariant.1 _ (omega arith) (omega arith))
