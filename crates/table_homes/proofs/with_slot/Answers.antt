-- `table_homes::with_slot` meets its contract: a slot without the pair adds nothing.
use mathlib.Core.Path.{ap, ◌∙◌}
use Rattle.table_homes.specs.Pass.{with_slot}
use Rattle.table.specs.declared.Slot.{Slot}
use Rattle.table_homes.proofs.Laws.{held_here, hit_here, miss_here}
use borrow.Author.Rules.{rules}
use Rattle.table_homes.proofs.with_slot.Goals as goal

pub holds_at-requires : goal.holds_at-requires
holds_at-requires c = (search rules, (c.requires.1.0.key_is, c.requires.1.0.pair))

pub returns-then-not-holds_at : goal.returns-then-not-holds_at
returns-then-not-holds_at c =
    let a = c.args in
    miss_here a.e a.t.now a.kind a.label a.i c.requires.1.0.label_is _ c.holds_at.ensures c.if-not-holds_at.true a.h

pub unpack_held-requires : goal.unpack_held-requires
unpack_held-requires c =
    let a = c.args in
    (search rules, held_here a.e a.t.now a.kind a.label a.i c.requires.1.0.label_is _ c.holds_at.ensures c.if-not-holds_at.false)

pub with_pair-requires : goal.with_pair-requires
with_pair-requires c =
    let a = c.args in
    (c.requires.1.1, hit_here a.e a.t.now a.kind a.label a.i c.requires.1.0.label_is _ c.holds_at.ensures c.if-not-holds_at.false _ c.unpack_held.ensures)

pub returns : goal.returns
returns c =
    let a = c.args in
    c.with_pair.ensures ∙ ap (λ (s : Slot). with_slot a.e a.i s a.h) c.unpack_held.ensures
