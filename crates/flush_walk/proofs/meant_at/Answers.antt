-- `flush_walk::meant_at` meets its contract: the four tests in a row.
use mathlib.Core.Path.{ap, ◌∙◌}
use Rattle.flush.specs.Meaning.{nickname_meant}
use Rattle.flush_walk.proofs.Laws.{not_learned, not_named, not_labelled, by_mac}
use Rattle.flush_walk.proofs.meant_at.Goals as goal

pub returns-then-not-nickname_meant : goal.returns-then-not-nickname_meant
returns-then-not-nickname_meant c =
    let named = c.nickname_meant.ensures ∙ ap (nickname_meant _ _) c.nickname_at.ensures.0 in
    not_named _ _ _ _ _ _ named c.if-not-nickname_meant.true

pub returns-then-not-learned_at : goal.returns-then-not-learned_at
returns-then-not-learned_at c = not_learned _ _ _ _ _ _ c.learned_at.ensures c.if-not-learned_at.true

pub returns-then-not-label_passes : goal.returns-then-not-label_passes
returns-then-not-label_passes c =
    let named = c.nickname_meant.ensures ∙ ap (nickname_meant _ _) c.nickname_at.ensures.0 in
    not_labelled _ _ _ _ _ _ c.learned_at.ensures c.if-not-learned_at.false _ named c.if-not-nickname_meant.false _ c.label_passes.ensures c.if-not-label_passes.true

pub returns : goal.returns
returns c =
    let named = c.nickname_meant.ensures ∙ ap (nickname_meant _ _) c.nickname_at.ensures.0 in
    by_mac _ _ _ _ _ _ c.learned_at.ensures c.if-not-learned_at.false _ named c.if-not-nickname_meant.false _ c.label_passes.ensures c.if-not-label_passes.false _ c.mac_passes.ensures
