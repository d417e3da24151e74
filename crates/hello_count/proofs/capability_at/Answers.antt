-- `hello_count::capability_at` meets its contract: return by return.
use Rattle.hello_count.proofs.Levels.{at_242_short, at_242}
use borrow.Author.Rules.{rules}
use Rattle.hello_count.proofs.capability_at.Goals as goal

pub returns-then-v-lt-CAPABILITY_HEAD : goal.returns-then-v-lt-CAPABILITY_HEAD
returns-then-v-lt-CAPABILITY_HEAD c = (search at_242_short, search rules)

pub returns : goal.returns
returns c = (search at_242, search rules)
