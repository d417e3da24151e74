-- `hello_ends::nicknames_end` meets its contract: return by return.
use Rattle.hello_ends.proofs.Good.{nicknames_none, nicknames_many, nicknames_on}
use Rattle.hello_ends.proofs.nicknames_end.Goals as goal

pub returns-then-n-i : goal.returns-then-n-i
returns-then-n-i c = search nicknames_none

pub returns-then-m-gt-MOST_NICKNAMES : goal.returns-then-m-gt-MOST_NICKNAMES
returns-then-m-gt-MOST_NICKNAMES c = search nicknames_many

pub returns : goal.returns
returns c = search nicknames_on
