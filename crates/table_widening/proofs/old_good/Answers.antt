-- `table_widening::old_good` meets its contract: the tests are the definition's.
use mathlib.Core.Path.{refl, sym, ◌∙◌}
use Rattle.numbers.specs.Tests.{between}
use Rattle.numbers.proofs.Steps.{both_fails, both-goes_on}
use Rattle.table.specs.Widening.{old_good}
use Rattle.numbers.proofs.Truth.{and_both}
use Rattle.table_widening.proofs.old_good.Goals as goal

pub returns-then-not-n : goal.returns-then-not-n
unfolding old_good between
returns-then-not-n c = both_fails _ _ (sym (and_both _ _) ∙ c.if-not-n.true)

pub returns : goal.returns
unfolding old_good between
returns c = both-goes_on _ _ _ (sym (and_both _ _) ∙ c.if-not-n.false) refl
