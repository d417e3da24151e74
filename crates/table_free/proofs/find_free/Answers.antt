-- `table_free::find_free` meets its contract. The invariant: none of the first `j` slots is free, and those of state 0 are counted.
use Prim.Native.Nat.{◌-◌}
use mathlib.Core.Path.{refl}
use native.Mathlib.Omega.{arith}
use Rattle.table.specs.Slots.{first_slot, count_slots}
use Rattle.table.specs.FreeSlot.{state_free}
use Rattle.table.proofs.Slots.{count_few}
use Rattle.table_free.proofs.Laws.{free_hit, free_on, spoilt_on, spoilt_few, free_end}
use borrow.Author.Rules.{rules}
use Rattle.table_free.proofs.find_free.Goals as goal

pub loop-j-init : goal.loop-j-init
unfolding first_slot count_slots
loop-j-init c = (search rules, (refl, refl))

pub free_step-step-requires : goal.free_step-step-requires
free_step-step-requires c =
    let few = count_few state_free c.args.t.now 0 c.loop-j.j in
    (search rules, omega (arith, few))

pub returns-then-step : goal.returns-then-step
returns-then-step c =
    let t = c.args.t.now in
    let at = c.loop-j in
    free_hit t at.j at.unpacked at.invariant.1.0 at.invariant.1.1 _ c.free_step-step.ensures.0 _ c.free_step-step.ensures.1 (omega arith) c.if-step.true

pub loop-j-preserved-then-unpacked-before : goal.loop-j-preserved-then-unpacked-before
loop-j-preserved-then-unpacked-before c =
    let t = c.args.t.now in
    let at = c.loop-j in
    let on = free_on t at.j at.unpacked at.invariant.1.0 at.invariant.1.1 _ c.free_step-step.ensures.0 _ c.free_step-step.ensures.1 c.if-step.false _ c.next_in_state-j.ensures.0 c.next_in_state-j.ensures.1.1 in
    (search rules, (on.1, on.0))

pub overflow_add-unpacked : goal.overflow_add-unpacked
overflow_add-unpacked c =
    let t = c.args.t.now in
    let at = c.loop-j in
    let few = spoilt_few t at.j at.unpacked at.invariant.1.0 at.invariant.1.1 _ c.free_step-step.ensures.0 _ c.free_step-step.ensures.1 _ c.next_not_spoilt-k.ensures.0 in
    let within = c.next_not_spoilt-k.ensures.1.0 in
    omega (arith, few, within)

pub loop-j-preserved : goal.loop-j-preserved
loop-j-preserved c =
    let t = c.args.t.now in
    let at = c.loop-j in
    let to = c.next_not_spoilt-k.ensures in
    let on = spoilt_on t at.j at.unpacked at.invariant.1.0 at.invariant.1.1 _ c.free_step-step.ensures.0 _ c.free_step-step.ensures.1 c.if-step.false _ to.0 to.1.1.0 to.1.1.1 in
    (search rules, (on.1, on.0))

pub returns : goal.returns
returns c =
    let t = c.args.t.now in
    let at = c.loop-j in
    free_end t at.j at.unpacked at.invariant.1.0 at.invariant.1.1 at.invariant.0 (omega arith)
