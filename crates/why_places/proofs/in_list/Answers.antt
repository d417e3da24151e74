-- `why_places::in_list` meets its contract. The invariant: the list has x in it exactly if it has it from `at` on.
use mathlib.Core.Path.{sym, ◌∙◌}
use native.Mathlib.Omega.{arith}
use Rattle.flush_members.proofs.Laws.{item_near, parts_done, part_hit}
use Rattle.why_places.specs.Reading.{left_has}
use Rattle.why_places.proofs.Laws.{width_some}
use Rattle.why_places.proofs.Apart.{list_left, left_next}
use borrow.Author.Rules.{rules}
use Rattle.why_places.proofs.in_list.Goals as goal

pub loop-at-init : goal.loop-at-init
loop-at-init c = (search width_some, (search rules, list_left _ _ _ ∙ c.pass_apart-at.ensures.1))

pub returns-then-number_is : goal.returns-then-number_is
unfolding left_has
returns-then-number_is c = search (part_hit, item_near)

pub loop-at-preserved : goal.loop-at-preserved
loop-at-preserved c = (search rules, (search rules, c.loop-at.invariant.1.1 ∙ left_next _ _ _ (search rules) _ (omega arith) (sym c.number_is.ensures ∙ c.if-number_is.false) ∙ c.pass_apart-at-in-loop-at.ensures.1))

pub returns : goal.returns
unfolding left_has
returns c = search (parts_done, item_near)
