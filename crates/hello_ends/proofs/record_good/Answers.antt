-- `hello_ends::record_good` meets its contract: the tests are the definition's.
use Rattle.hello_ends.proofs.Many.{place_fits}
use borrow.Author.Rules.{rules}
use Rattle.hello_ends.proofs.record_good.Goals as goal

pub overflow_add-i : goal.overflow_add-i
overflow_add-i c = search (place_fits, rules)

pub overflow_add-i-2 : goal.overflow_add-i-2
overflow_add-i-2 c = search (place_fits, rules)
