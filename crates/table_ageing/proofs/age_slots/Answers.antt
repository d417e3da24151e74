-- `table_ageing::age_slots` meets its contract. The invariant: the slots below offset `a` are aged, and the others as they were.
use Prim.Native.Nat.{ℕ, ◌≤◌, ◌+◌, ◌/◌, ◌%◌}
use mathlib.Core.List.{List}
use mathlib.Core.Path.{◌≡◌, refl, sym, ap, ◌∙◌}
use native.Mathlib.Omega.{arith}
use lib.ListN.{length}
use Rattle.table.specs.Record.{is_learned, learned_state}
use Rattle.table.specs.Slots.{slot_bytes, on_slots}
use Rattle.table.specs.Table.{aged_slot}
use Rattle.table.proofs.Slots.{length-on_slots}
use Rattle.table.proofs.Ageing.{aged_keeps}
use Rattle.table_rounds.specs.Rounds.{InState, Passed}
use Rattle.table_ageing.proofs.Laws.{length_at, learned_lent, aged_at, passed_by}
use borrow.Author.Rules.{rules}
use Rattle.table_ageing.proofs.age_slots.Goals as goal

pub loop-a-init : goal.loop-a-init
unfolding on_slots
loop-a-init c = (refl, (search rules, (refl, refl)))

pub learned_at-requires : goal.learned_at-requires
learned_at-requires c =
    let at = c.loop-a in
    let aligned = at.invariant.0 in
    let long = at.invariant.1.1.0 in
    omega arith

pub slice_bounds-age_slot-end : goal.slice_bounds-age_slot-end
slice_bounds-age_slot-end c =
    let at = c.loop-a in
    let aligned = at.invariant.0 in
    let long = at.invariant.1.1.0 in
    omega arith

pub age_slot-requires : goal.age_slot-requires
age_slot-requires c =
    let at = c.loop-a in
    let aligned = at.invariant.0 in
    let long = at.invariant.1.1.0 in
    (length_at at.a at.table (omega arith), ap is_learned (learned_lent at.a at.table) ∙ sym c.learned_at.ensures ∙ c.if-learned_at.true)

pub loop-a-preserved-then-learned_at : goal.loop-a-preserved-then-learned_at
loop-a-preserved-then-learned_at c =
    let at = c.loop-a in
    let aligned = at.invariant.0 in
    let long = at.invariant.1.1.0 in
    let a = c.args in
    let t : List ℕ = a.table.now in
    let step = aged_at a.s t at.table (at.a / slot_bytes) at.invariant.1.1.1 at.a (omega arith) (omega arith) _ c.age_slot.ensures in
    let next : (at.a + slot_bytes) / slot_bytes ≡ at.a / slot_bytes + 1 = omega arith in (
      omega arith,
      (
        omega arith,
        (ap length step ∙ length-on_slots (aged_slot a.s) (aged_keeps a.s) t 0 (at.a / slot_bytes + 1) (omega arith), rw next step),
      ),
    )

pub next_learned-a-requires : goal.next_learned-a-requires
next_learned-a-requires c =
    let at = c.loop-a in
    let aligned = at.invariant.0 in
    let long = at.invariant.1.1.0 in
    (omega arith, omega arith)

pub loop-a-preserved : goal.loop-a-preserved
loop-a-preserved c =
    let at = c.loop-a in
    let aligned = at.invariant.0 in
    let long = at.invariant.1.1.0 in
    let a = c.args in
    let t : List ℕ = a.table.now in
    let r : ℕ = c.next_learned-a.result in
    let to = c.next_learned-a.ensures in
    let whole : r % slot_bytes ≡ 0 = to.0 in
    let above : at.a + slot_bytes ≤ r = to.1.0 in
    let within : r ≤ length at.table = to.1.1.0 in
    let next : (at.a + slot_bytes) / slot_bytes ≡ at.a / slot_bytes + 1 = omega arith in
    let passed : Passed (InState learned_state) (at.a / slot_bytes + 1) (r / slot_bytes) at.table = rw next at to.1.1.1 in (
      whole,
      (
        omega arith,
        (
          long,
          passed_by a.s t at.table (at.a / slot_bytes) at.invariant.1.1.1 at.a (r / slot_bytes) (omega arith) (omega arith) (omega arith) _ c.learned_at.ensures c.if-learned_at.false passed,
        ),
      ),
    )

pub shape_of-table : goal.shape_of-table
shape_of-table c = c.loop-a.invariant.1.1.0

pub returns : goal.returns
returns c =
    let at = c.loop-a in
    let aligned = at.invariant.0 in
    let done : at.a / slot_bytes ≡ length c.args.table.now / slot_bytes = omega arith in
    rw done at at.invariant.1.1.1
