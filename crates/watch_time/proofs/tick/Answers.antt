-- `watch_time::tick` meets its contract: what passed is taken off.
use Rattle.watch_time.proofs.Laws.{ticked_on}
use Rattle.watch_time.proofs.tick.Goals as goal

pub returns : goal.returns
returns c = search ticked_on
