-- `port_map_judge::labels_noted` meets its contract. The invariant: the bits of the labels from pair `i` on are set, and these are good and stand once.
use Rattle.port_map_judge.proofs.Laws.{marked_start, marked_in, marked_met, marked_bad, marked_next, marked_done}
use borrow.Author.Rules.{rules}
use Rattle.port_map_judge.proofs.labels_noted.Goals as goal

pub loop-i-init : goal.loop-i-init
loop-i-init c = search marked_start

pub note_label-requires : goal.note_label-requires
note_label-requires c = (search marked_in, (search rules, search marked_met))

pub returns-then-not-note_label : goal.returns-then-not-note_label
returns-then-not-note_label c = search marked_bad

pub loop-i-preserved : goal.loop-i-preserved
loop-i-preserved c = search marked_next

pub returns : goal.returns
returns c = search marked_done
