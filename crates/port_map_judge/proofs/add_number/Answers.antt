-- `port_map_judge::add_number` meets its contract: a byte with one bit is a shifted one.
use Rattle.port_map_judge.proofs.Laws.{number_added}
use Rattle.port_map_judge.proofs.add_number.Goals as goal

pub returns : goal.returns
returns c = search number_added
