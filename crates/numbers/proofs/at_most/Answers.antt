-- `numbers::at_most` meets its contract.
use Rattle.numbers.proofs.Truth.{most_second, most_first}
use borrow.Author.Rules.{rules}
use Rattle.numbers.proofs.at_most.Goals as goal

pub returns-then-n-m : goal.returns-then-n-m
returns-then-n-m c = (search most_second, search rules)

pub returns : goal.returns
returns c = (search most_first, search rules)
