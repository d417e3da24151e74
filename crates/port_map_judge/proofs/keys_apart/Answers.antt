-- `port_map_judge::keys_apart` meets its contract. The invariant: neighbours before `i` that are keys of one label are one key.
use Rattle.port_map_judge.proofs.Apart.{near_start, near_bad, near_next, near_done}
use Rattle.port_map_judge.proofs.keys_apart.Goals as goal

pub loop-i-init : goal.loop-i-init
loop-i-init c = search near_start

pub returns-then-a-b : goal.returns-then-a-b
returns-then-a-b c = search near_bad

pub loop-i-preserved : goal.loop-i-preserved
loop-i-preserved c = search near_next

pub returns : goal.returns
returns c = search near_done
