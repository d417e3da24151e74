-- `table_homes::gathered` meets its contract. The invariant: `h` is what the first `i` slots hold of the pair.
use Prim.Native.Nat.{ℕ, ◌≤◌, ◌-◌, ◌+◌, ◌/◌}
use mathlib.Core.Path.{◌≡◌, ap, ◌∙◌}
use lib.ListN.{length}
use native.Mathlib.Omega.{arith}
use Rattle.table.specs.Slots.{slot_bytes}
use Rattle.table_homes.specs.Pass.{homes_to}
use Rattle.table_homes.proofs.Laws.{few_seen, seen_next, seen_past}
use borrow.Author.Rules.{rules}
use Rattle.table_homes.proofs.gathered.Goals as goal

pub loop-i-init : goal.loop-i-init
unfolding homes_to
loop-i-init c = (search rules, c.no_homes-h.ensures)

pub with_slot-h-requires : goal.with_slot-h-requires
with_slot-h-requires c =
    let a = c.args in
    let at = c.loop-i in
    let few : at.h.count ≤ at.i = rw at.invariant.1 (few_seen a.e a.t.now at.i) in
    (omega arith, (c.requires, record { few = few; small = omega arith }))

pub loop-i-preserved : goal.loop-i-preserved
loop-i-preserved c =
    let a = c.args in
    let at = c.loop-i in
    let next = seen_next a.e a.t.now at.i at.h _ at.invariant.1 c.with_slot-h.ensures in
    (search rules, seen_past a.e a.t.now a.kind a.label c.requires.pair.kind_small c.requires.label_is _ c.round_key_of-round_key.ensures (at.i + 1) _ c.next_keyed-i.ensures.0 c.next_keyed-i.ensures.1.1 _ next)

pub returns : goal.returns
returns c =
    let a = c.args in
    let at = c.loop-i in
    let done : at.i ≡ length a.t.now / slot_bytes = omega arith in
    at.invariant.1 ∙ ap (λ (n : ℕ). homes_to a.e n a.t.now) done
