-- `hello_judge::count_trees` meets its contract: return by return.
use Rattle.hello_judge.proofs.Subs.{trees_good_lem, trees_short, trees_bad}
use borrow.Author.Rules.{rules}
use Rattle.hello_judge.proofs.count_trees.Goals as goal

pub returns-then-n-lt2 : goal.returns-then-n-lt2
returns-then-n-lt2 c = (search trees_short, search rules)

pub returns-then-n-ne0 : goal.returns-then-n-ne0
returns-then-n-ne0 c = (search trees_bad, search rules)

pub returns : goal.returns
returns c = (search trees_good_lem, search rules)
