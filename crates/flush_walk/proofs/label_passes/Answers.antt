-- `flush_walk::label_passes` meets its contract: by what was noted, or by the message.
use mathlib.Core.Path.{◌∙◌}
use Rattle.flush_walk.proofs.Laws.{label_every, label_walked}
use Rattle.flush_walk.proofs.label_passes.Goals as goal

pub returns-then-kind-f : goal.returns-then-kind-f
returns-then-kind-f c = rw (← c.kind_at-kind.ensures) (label_every _ _ _ _ c.if-kind-f.true)

pub returns : goal.returns
returns c =
    c.label_meant.ensures
    ∙ rw (← c.kind_at-kind.ensures, ← c.label_at.ensures) (label_walked _ _ _ _ c.if-kind-f.false)
