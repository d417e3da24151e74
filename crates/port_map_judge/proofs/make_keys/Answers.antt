-- `port_map_judge::make_keys` meets its contract. The invariant: the labels from pair `i` on are good, and their keys are made.
use mathlib.Core.Path.{refl}
use Rattle.port_map_judge.proofs.Apart.{make_start, make_in, make_over, make_next, make_done}
use borrow.Author.Rules.{rules}
use Rattle.port_map_judge.proofs.make_keys.Goals as goal

pub loop-i-init : goal.loop-i-init
loop-i-init c = (refl, search make_start)

pub label_at-l-requires : goal.label_at-l-requires
label_at-l-requires c = search make_in

pub returns-then-l-gt-LAST_FINE : goal.returns-then-l-gt-LAST_FINE
returns-then-l-gt-LAST_FINE c = search make_over

pub loop-i-preserved : goal.loop-i-preserved
loop-i-preserved c = (search rules, search make_next)

pub returns : goal.returns
returns c = search make_done
