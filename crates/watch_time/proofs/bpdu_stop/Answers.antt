-- `watch_time::bpdu_stop` meets its contract: the product is rounded up, and ten seconds are the least.
use Rattle.watch.specs.Events.{bpdu_stop}
use Rattle.std.proofs.Common.{rules}
use Rattle.watch_time.proofs.bpdu_stop.Goals as goal

pub returns : goal.returns
unfolding bpdu_stop
returns c = search rules
