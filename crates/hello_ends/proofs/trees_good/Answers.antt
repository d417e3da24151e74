-- `hello_ends::trees_good` meets its contract: return by return.
use Rattle.hello_ends.proofs.Sums.{field_two}
use Rattle.hello_ends.proofs.Good.{trees_short, trees_many, trees_long, trees_start, trees_list}
use borrow.Author.Rules.{rules}
use Rattle.hello_ends.proofs.trees_good.Goals as goal

pub returns-then-n-i : goal.returns-then-n-i
returns-then-n-i c = search trees_short

pub returns-then-m-gt-MOST_TREES : goal.returns-then-m-gt-MOST_TREES
returns-then-m-gt-MOST_TREES c = search trees_many

pub returns-then-n-i-2 : goal.returns-then-n-i-2
returns-then-n-i-2 c = search trees_long

pub returns-then-number-ge-TWO_BYTES : goal.returns-then-number-ge-TWO_BYTES
returns-then-number-ge-TWO_BYTES c = search trees_start

pub numbers_good-requires : goal.numbers_good-requires
numbers_good-requires c = (search rules, (search rules, field_two))

pub returns : goal.returns
returns c = search trees_list
