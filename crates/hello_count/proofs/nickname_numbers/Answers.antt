-- `hello_count::nickname_numbers` meets its contract: return by return.
use Rattle.hello_count.proofs.Subs.{numbers_6, zero_6}
use borrow.Author.Rules.{rules}
use Rattle.hello_count.proofs.nickname_numbers.Goals as goal

pub returns-then-n-eq0 : goal.returns-then-n-eq0
returns-then-n-eq0 c = (search numbers_6, search rules)

pub returns : goal.returns
returns c = (search zero_6, search rules)
