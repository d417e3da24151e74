-- `hello_ends::macs_good` meets its contract: return by return.
use Rattle.hello_ends.proofs.Sums.{field_six}
use Rattle.hello_ends.proofs.Good.{macs_short, macs_many, macs_long, macs_label, macs_list}
use borrow.Author.Rules.{rules}
use Rattle.hello_ends.proofs.macs_good.Goals as goal

pub returns-then-n-i : goal.returns-then-n-i
returns-then-n-i c = search macs_short

pub returns-then-m-gt-MOST_MACS : goal.returns-then-m-gt-MOST_MACS
returns-then-m-gt-MOST_MACS c = search macs_many

pub returns-then-n-i-2 : goal.returns-then-n-i-2
returns-then-n-i-2 c = search macs_long

pub returns-then-not-label_good : goal.returns-then-not-label_good
returns-then-not-label_good c = search macs_label

pub numbers_good-requires : goal.numbers_good-requires
numbers_good-requires c = (search rules, (search rules, field_six))

pub returns : goal.returns
returns c = search macs_list
