-- `watch_time::twice_stop` meets its contract: the product, and ten seconds are the least.
use Rattle.watch.specs.Events.{twice_stop}
use Rattle.std.proofs.Common.{rules}
use Rattle.watch_time.proofs.twice_stop.Goals as goal

pub returns : goal.returns
unfolding twice_stop
returns c = search rules
