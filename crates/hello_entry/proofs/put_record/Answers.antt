-- `hello_entry::put_record` meets its contract: three numbers one behind the other.
use Rattle.hello_entry.proofs.Writes.{number_fits, record_put}
use borrow.Author.Rules.{rules}
use Rattle.hello_entry.proofs.put_record.Goals as goal

pub overflow_add-i : goal.overflow_add-i
overflow_add-i c = search (number_fits, rules)

pub overflow_add-i-2 : goal.overflow_add-i-2
overflow_add-i-2 c = search (number_fits, rules)

pub returns : goal.returns
returns c = record_put _ _ _ _ c.requires.1 _ _ _ c.put_low.ensures c.put_low-2.ensures c.put_low-3.ensures
