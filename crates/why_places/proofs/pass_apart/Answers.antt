-- `why_places::pass_apart` meets its contract. The invariant: what is left decides.
use mathlib.Core.Path.{refl, ◌∙◌}
use borrow.Author.Rules.{rules}
use Rattle.why_places.proofs.pass_apart.Goals as goal

pub loop-at-init : goal.loop-at-init
loop-at-init c = ((search rules, search rules), refl)

pub loop-at-preserved : goal.loop-at-preserved
loop-at-preserved c = ((search rules, search rules), c.loop-at.invariant.1 ∙ c.four_apart.ensures c.if-not-four_apart.false)
