-- `port_map_judge::labels_noted_twice` meets its contract. The invariant: in both sets the bits of the labels from pair `i` on are set, and these are good and stand once.
use Rattle.port_map_judge.proofs.Laws.{twice_start, twice_in, twice_low, twice_high, twice_bad, twice_next, twice_done}
use borrow.Author.Rules.{rules}
use Rattle.port_map_judge.proofs.labels_noted_twice.Goals as goal

pub loop-i-init : goal.loop-i-init
loop-i-init c = (search twice_start, search rules)

pub label_at-l-requires : goal.label_at-l-requires
label_at-l-requires c = search twice_in

pub note_label_twice-requires : goal.note_label_twice-requires
note_label_twice-requires c = (search twice_in, (search rules, (search twice_low, search twice_high)))

pub returns-then-not-note_label_twice : goal.returns-then-not-note_label_twice
returns-then-not-note_label_twice c = search twice_bad

pub loop-i-preserved : goal.loop-i-preserved
loop-i-preserved c = (search twice_next, search rules)

pub returns : goal.returns
returns c = search twice_done
