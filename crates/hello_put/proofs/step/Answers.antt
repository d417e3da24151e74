-- `hello_put::step` meets its contract: each way out is a case of the definition.
use Rattle.hello_put.proofs.Laws.{step_taken, step_new}
use Rattle.hello_put.proofs.step.Goals as goal

pub returns-then-takes_it : goal.returns-then-takes_it
returns-then-takes_it c = search step_taken

pub returns : goal.returns
returns c = search step_new
