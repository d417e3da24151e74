-- `port_map_judge::note_label_twice` meets its contract: bad, met again, or noted now.
use Rattle.port_map_judge.proofs.Laws.{both_over, both_again, both_new}
use Rattle.port_map_judge.proofs.note_label_twice.Goals as goal

pub returns-then-l-gt-LAST_FINE : goal.returns-then-l-gt-LAST_FINE
returns-then-l-gt-LAST_FINE c = search both_over

pub returns-then-label_met_twice : goal.returns-then-label_met_twice
returns-then-label_met_twice c = search both_again

pub returns : goal.returns
returns c = search both_new
