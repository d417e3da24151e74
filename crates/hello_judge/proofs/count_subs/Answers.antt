-- `hello_judge::count_subs` meets its contract. The invariant: what is left decides.
use Rattle.hello_judge.proofs.Subs.{stump_bad}
use Rattle.hello_judge.proofs.Laws.{walk_done, walk_cut, walk_next}
use borrow.Author.Rules.{rules}
use Rattle.hello_judge.proofs.count_subs.Goals as goal

pub returns-then-l-e : goal.returns-then-l-e
returns-then-l-e g c = (search (walk_cut, stump_bad), search rules)

pub loop-at-preserved : goal.loop-at-preserved
loop-at-preserved g c = (search rules, (search walk_next, search rules))

pub returns : goal.returns
returns g c = (search walk_done, search rules)
