-- `hello_ends::numbers_good` meets its contract. The invariant: while the sum is 0, what is left to take reaches where the whole does; else the whole is refused.
use Rattle.hello_ends.proofs.Many.{item_fits}
use Rattle.hello_ends.proofs.Sums.{sums_next, sums_test, sum_next}
use borrow.Author.Rules.{rules}
use Rattle.hello_ends.proofs.numbers_good.Goals as goal

pub overflow_add-i : goal.overflow_add-i
overflow_add-i c = search (item_fits, rules)

pub loop-j-preserved : goal.loop-j-preserved
loop-j-preserved c = (search sum_next, search sums_next)

pub returns : goal.returns
returns c = search (sums_test, rules)
