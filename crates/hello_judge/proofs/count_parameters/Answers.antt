-- `hello_judge::count_parameters` meets its contract: return by return.
use Rattle.hello_judge.proofs.Subs.{parameters_good_lem, parameters_bad}
use borrow.Author.Rules.{rules}
use Rattle.hello_judge.proofs.count_parameters.Goals as goal

pub returns-then-v-ne4 : goal.returns-then-v-ne4
returns-then-v-ne4 c = (search parameters_bad, search rules)

pub returns : goal.returns
returns c = (search parameters_good_lem, search rules)
