-- `table_states::free_fields_at` meets its contract: free is all zero.
use Rattle.table_states.proofs.Laws.{free_front, free_zero}
use Rattle.table_states.proofs.free_fields_at.Goals as goal

pub returns-then-front_at-ne0 : goal.returns-then-front_at-ne0
returns-then-front_at-ne0 c = free_front _ _ c.front_at.ensures.0 c.front_at.ensures.1 c.if-front_at-ne0.true

pub returns : goal.returns
returns c = free_zero _ _ c.front_at.ensures.0 c.front_at.ensures.1 c.if-front_at-ne0.false _ c.zero_after_front.ensures
