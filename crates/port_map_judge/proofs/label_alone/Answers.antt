-- `port_map_judge::label_alone` meets its contract: bad, or what the search behind it says.
use Rattle.port_map_judge.proofs.Laws.{label_over, label_beside}
use Rattle.port_map_judge.proofs.label_alone.Goals as goal

pub returns-then-l-gt-LAST_FINE : goal.returns-then-l-gt-LAST_FINE
returns-then-l-gt-LAST_FINE c = search label_over

pub returns : goal.returns
returns c = search label_beside
