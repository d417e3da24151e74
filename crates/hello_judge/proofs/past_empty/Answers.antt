-- `hello_judge::past_empty` meets its contract. The invariant: behind the place the same TLVs are left as behind the start.
use Rattle.hello_judge.proofs.Laws.{past_some, past_242, past_251, past_next, past_stop, past_last}
use borrow.Author.Rules.{rules}
use Rattle.hello_judge.proofs.past_empty.Goals as goal

pub returns-then-l-at-ne0 : goal.returns-then-l-at-ne0
returns-then-l-at-ne0 c = (search (past_stop, past_some, rules), (search rules, search rules))

pub returns-then-l-at : goal.returns-then-l-at
returns-then-l-at c = (search (past_stop, past_242, rules), (search rules, search rules))

pub returns-then-l-at-2 : goal.returns-then-l-at-2
returns-then-l-at-2 c = (search (past_stop, past_251, rules), (search rules, search rules))

pub loop-i-preserved : goal.loop-i-preserved
loop-i-preserved c = search (past_next, rules)

pub returns : goal.returns
returns c = (search (past_last, rules), (search rules, search rules))
