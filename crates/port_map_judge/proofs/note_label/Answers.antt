-- `port_map_judge::note_label` meets its contract: bad, met again, or noted now.
use Rattle.port_map_judge.proofs.Laws.{mark_over, mark_again, mark_new}
use Rattle.port_map_judge.proofs.note_label.Goals as goal

pub returns-then-l-gt-LAST_FINE : goal.returns-then-l-gt-LAST_FINE
returns-then-l-gt-LAST_FINE c = search mark_over

pub returns-then-label_met : goal.returns-then-label_met
returns-then-label_met c = search mark_again

pub returns : goal.returns
returns c = search mark_new
