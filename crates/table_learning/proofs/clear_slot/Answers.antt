-- `table_learning::clear_slot` meets its contract: only a learned record of the pair is freed.
use mathlib.Core.Path.{◌∙◌}
use Rattle.table_learning.proofs.Laws.{clear_other, clear_configured, clear_hit}
use borrow.Author.Rules.{rules}
use Rattle.table_learning.proofs.clear_slot.Goals as goal

pub holds_at-requires : goal.holds_at-requires
holds_at-requires c = (search rules, (c.requires.1.key_is, c.requires.1.pair))

pub returns-then-not-holds_at : goal.returns-then-not-holds_at
returns-then-not-holds_at c =
    let a = c.args in
    clear_other a.e a.slot.now a.kind a.label c.requires.1.label_is _ c.holds_at.ensures c.if-not-holds_at.true

pub returns-then-not-learned_at : goal.returns-then-not-learned_at
returns-then-not-learned_at c =
    let a = c.args in
    clear_configured a.e a.slot.now a.kind a.label c.requires.1.label_is _ c.holds_at.ensures _ c.learned_at.ensures c.if-not-learned_at.true

pub returns : goal.returns
returns c =
    let a = c.args in
    c.clear.ensures
    ∙ clear_hit a.e a.slot.now a.kind a.label c.requires.1.label_is _ c.holds_at.ensures _ c.learned_at.ensures c.if-not-holds_at.false c.if-not-learned_at.false
