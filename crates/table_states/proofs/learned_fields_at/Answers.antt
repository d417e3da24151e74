-- `table_states::learned_fields_at` meets its contract: state 1, and then the entry decides.
use Rattle.table_states.proofs.Laws.{unlearned, learned, learned_without}
use borrow.Author.Rules.{rules}
use Rattle.table_states.proofs.learned_fields_at.Goals as goal

pub returns-then-not-front : goal.returns-then-not-front
returns-then-not-front c = unlearned _ _ c.front_at-front.ensures.0 c.front_at-front.ensures.1 c.if-not-front.true

pub overflow_sub-front : goal.overflow_sub-front
overflow_sub-front c = (learned_without _ _ c.front_at-front.ensures.0 c.front_at-front.ensures.1 c.if-not-front.false).0

pub good_by_front-requires : goal.good_by_front-requires
good_by_front-requires c = (search rules, (learned_without _ _ c.front_at-front.ensures.0 c.front_at-front.ensures.1 c.if-not-front.false).1)

pub returns : goal.returns
returns c = learned _ _ c.front_at-front.ensures.0 c.front_at-front.ensures.1 c.if-not-front.false _ c.good_by_front.ensures
