-- `flush_keys::collect` meets its contract. The invariant: what is marked and the keys from `i` on make up the whole.
use Rattle.flush_keys.proofs.Marking.{collecting_next, collecting_done}
use Rattle.flush_keys.proofs.collect.Goals as goal

pub loop-i-preserved : goal.loop-i-preserved
loop-i-preserved c = search collecting_next

pub returns : goal.returns
returns c = search collecting_done
