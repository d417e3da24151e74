-- `hello_entry::four_macs` meets its contract: each MAC is put behind the one before.
use Rattle.hello_entry.proofs.Writes.{near_fits, four_put}
use borrow.Author.Rules.{rules}
use Rattle.hello_entry.proofs.four_macs.Goals as goal

pub overflow_add-i : goal.overflow_add-i
overflow_add-i c = search (near_fits, rules)

pub overflow_add-i-2 : goal.overflow_add-i-2
overflow_add-i-2 c = search (near_fits, rules)

pub overflow_add-i-3 : goal.overflow_add-i-3
overflow_add-i-3 c = search (near_fits, rules)

pub returns : goal.returns
returns c = four_put _ _ _ _ _ _ _ _ c.put_mac.ensures c.put_mac-2.ensures c.put_mac-3.ensures c.put_mac-4.ensures
