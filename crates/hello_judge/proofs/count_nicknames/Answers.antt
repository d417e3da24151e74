-- `hello_judge::count_nicknames` meets its contract: return by return.
use Rattle.hello_judge.proofs.Subs.{nicknames_good_lem, nicknames_bad}
use borrow.Author.Rules.{rules}
use Rattle.hello_judge.proofs.count_nicknames.Goals as goal

pub returns-then-n-ne0 : goal.returns-then-n-ne0
returns-then-n-ne0 c = (search nicknames_bad, search rules)

pub returns : goal.returns
returns c = (search nicknames_good_lem, search rules)
