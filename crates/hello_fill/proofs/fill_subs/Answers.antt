-- `hello_fill::fill_subs` meets its contract. The invariant: there is room for what is left, and what is left decides.
use Rattle.hello_fill.proofs.Walks.{room_first, room_here, room_next, fill_done, fill_cut}
use Rattle.hello_fill.proofs.Subs.{stump_words}
use Rattle.hello_fill.specs.Filling.{sub_words}
use Rattle.hello_judge.proofs.Laws.{walk_next}
use mathlib.Core.Path.{refl}
use borrow.Author.Rules.{rules}
use Rattle.hello_fill.proofs.fill_subs.Goals as goal

pub loop-at-init : goal.loop-at-init
loop-at-init g c = (search rules, (refl, (search room_first, refl)))

pub returns-then-l-e : goal.returns-then-l-e
returns-then-l-e g c = search (fill_cut, stump_words)

pub fill_sub-p-requires-clause-room : goal.fill_sub-p-requires-clause-room
fill_sub-p-requires-clause-room g c = search (room_here (sub_words g.row.FIRST) (sub_words g.row.SECOND))

pub loop-at-preserved : goal.loop-at-preserved
loop-at-preserved g c = (search rules, (search rules, (search room_next, search walk_next)))

pub returns : goal.returns
returns g c = search fill_done
