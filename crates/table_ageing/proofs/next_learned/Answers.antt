-- `table_ageing::next_learned` meets its contract. The invariant: no slot from `from` up to `a` has the state of a learned one.
use Prim.Native.Nat.{◌+◌, ◌/◌}
use mathlib.Core.Path.{◌≡◌}
use native.Mathlib.Omega.{arith}
use Rattle.table.specs.Record.{learned_state}
use Rattle.table.specs.Slots.{slot_bytes}
use Rattle.table_rounds.specs.Rounds.{InState, four_slots}
use Rattle.table_rounds.proofs.Laws.{passed_four}
use borrow.Author.Rules.{rules}
use Rattle.table_ageing.proofs.next_learned.Goals as goal

pub loop-a-init : goal.loop-a-init
loop-a-init c =
    let a = c.args in
    (c.requires.0, (search rules, (c.requires.1, λ k low high h. absurd (omega arith))))

pub none_in_state-requires : goal.none_in_state-requires
none_in_state-requires c = omega arith

pub returns-then-not-none_in_state : goal.returns-then-not-none_in_state
returns-then-not-none_in_state c =
    let at = c.loop-a.invariant in
    (at.0, (at.1.0, (at.1.1.0, at.1.1.1)))

pub loop-a-preserved : goal.loop-a-preserved
loop-a-preserved c =
    let at = c.loop-a in
    let a = c.args in
    let aligned = at.invariant.0 in
    let next : (at.a + four_slots) / slot_bytes ≡ at.a / slot_bytes + 4 = omega arith in
    let more = passed_four (InState learned_state) a.t.now (a.from / slot_bytes) (at.a / slot_bytes) at.a (omega arith) at.invariant.1.1.1 (c.none_in_state.ensures c.if-not-none_in_state.false) in
    (omega arith, (search rules, (search rules, rw next more)))

pub returns : goal.returns
returns c =
    let at = c.loop-a.invariant in
    (at.0, (at.1.0, (at.1.1.0, at.1.1.1)))
