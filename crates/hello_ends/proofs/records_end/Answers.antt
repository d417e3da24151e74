-- `hello_ends::records_end` meets its contract. The invariant: what is left to take reaches where the whole does.
use Rattle.hello_ends.proofs.Many.{records_short, records_bad, records_next, records_done}
use borrow.Author.Rules.{rules}
use Rattle.hello_ends.proofs.records_end.Goals as goal

pub returns-then-n-i : goal.returns-then-n-i
returns-then-n-i c = search records_short

pub returns-then-not-record_good : goal.returns-then-not-record_good
returns-then-not-record_good c = search (records_bad, rules)

pub loop-j-preserved : goal.loop-j-preserved
loop-j-preserved c = search (records_next, rules)

pub returns : goal.returns
returns c = search (records_done, rules)
