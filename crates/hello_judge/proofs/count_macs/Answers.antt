-- `hello_judge::count_macs` meets its contract: return by return.
use Rattle.hello_judge.proofs.Subs.{macs_good, macs_short, macs_bad}
use borrow.Author.Rules.{rules}
use Rattle.hello_judge.proofs.count_macs.Goals as goal

pub returns-then-n-lt4 : goal.returns-then-n-lt4
returns-then-n-lt4 c = (search macs_short, search rules)

pub returns-then-n-ne0 : goal.returns-then-n-ne0
returns-then-n-ne0 c = (search macs_bad, search rules)

pub returns : goal.returns
returns c = (search macs_good, search rules)
