-- `port_map_judge::is_doubtful` meets its contract: a label whose bit is not set in one of the sets stands nowhere.
use Rattle.port_map_judge.proofs.Laws.{doubt_low, doubt_high}
use Rattle.port_map_judge.proofs.is_doubtful.Goals as goal

pub returns-then-not-has : goal.returns-then-not-has
returns-then-not-has c = search doubt_low

pub returns : goal.returns
returns c = search doubt_high
