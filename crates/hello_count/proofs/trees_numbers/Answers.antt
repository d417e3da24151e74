-- `hello_count::trees_numbers` meets its contract: return by return.
use Rattle.hello_count.proofs.Subs.{numbers_8, zero_8, zero_8_short}
use borrow.Author.Rules.{rules}
use Rattle.hello_count.proofs.trees_numbers.Goals as goal

pub returns-then-n-lt2 : goal.returns-then-n-lt2
returns-then-n-lt2 c = (search zero_8_short, search rules)

pub returns-then-n-eq0 : goal.returns-then-n-eq0
returns-then-n-eq0 c = (search numbers_8, search rules)

pub returns : goal.returns
returns c = (search zero_8, search rules)
