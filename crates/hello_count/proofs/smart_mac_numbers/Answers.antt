-- `hello_count::smart_mac_numbers` meets its contract: return by return.
use Rattle.hello_count.proofs.Subs.{numbers_23, zero_23, zero_23_short}
use borrow.Author.Rules.{rules}
use Rattle.hello_count.proofs.smart_mac_numbers.Goals as goal

pub returns-then-n-lt4 : goal.returns-then-n-lt4
returns-then-n-lt4 c = (search zero_23_short, search rules)

pub returns-then-n-eq0 : goal.returns-then-n-eq0
returns-then-n-eq0 c = (search numbers_23, search rules)

pub returns : goal.returns
returns c = (search zero_23, search rules)
