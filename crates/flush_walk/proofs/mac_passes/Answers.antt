-- `flush_walk::mac_passes` meets its contract: every MAC, or by the message.
use mathlib.Core.Path.{◌∙◌}
use borrow.Author.Tests.{not-true, not-false}
use Rattle.flush_walk.proofs.Laws.{mac_every, mac_walked}
use Rattle.flush_walk.proofs.mac_passes.Goals as goal

pub returns-then-not-f : goal.returns-then-not-f
returns-then-not-f c = mac_every _ _ _ (not-true _ c.if-not-f.true)

pub returns : goal.returns
returns c = c.mac_meant.ensures ∙ rw (← c.mac_at.ensures) (mac_walked _ _ _ (not-false _ c.if-not-f.false))
