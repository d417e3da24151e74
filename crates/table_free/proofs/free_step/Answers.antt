-- `table_free::free_step` meets its contract: a record in another state is neither free nor counted; one of state 0 is counted.
use Rattle.table_free.proofs.Laws.{step_other, step_counted}
use Rattle.table_free.proofs.free_step.Goals as goal

pub returns-then-state_at-ne-FREE_STATE : goal.returns-then-state_at-ne-FREE_STATE
returns-then-state_at-ne-FREE_STATE c = step_other _ _ c.state_at.ensures _ c.if-state_at-ne-FREE_STATE.true

pub returns : goal.returns
returns c = (c.free_at.ensures, step_counted _ _ c.state_at.ensures _ c.if-state_at-ne-FREE_STATE.false)
