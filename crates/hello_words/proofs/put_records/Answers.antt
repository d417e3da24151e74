-- `hello_words::put_records` meets its contract. The invariant: the rest written behind what is there makes the whole.
use Rattle.hello_words.proofs.Parts.{records_empty, records_next, records_done}
use borrow.Author.Rules.{rules}
use Rattle.hello_words.proofs.put_records.Goals as goal

pub returns-then-n-lt1 : goal.returns-then-n-lt1
returns-then-n-lt1 c = search records_empty

pub loop-i-preserved : goal.loop-i-preserved
loop-i-preserved c = (search rules, (search rules, search records_next))

pub returns : goal.returns
returns c = search (records_done, rules)
