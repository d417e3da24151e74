-- `hello_entry::put_few_macs` meets its contract. The invariant: the rest put behind what is there makes the whole.
use mathlib.Core.Path.{refl}
use Rattle.hello_entry.proofs.Writes.{item_fits, last_fits, numbers_empty, numbers_none, macs_past, macs_last}
use borrow.Author.Rules.{rules}
use Rattle.hello_entry.proofs.put_few_macs.Goals as goal

pub returns-then-m-eq0 : goal.returns-then-m-eq0
returns-then-m-eq0 c = search numbers_empty

pub loop-j-init : goal.loop-j-init
loop-j-init c = (search rules, (refl, search numbers_none))

pub overflow_add-i : goal.overflow_add-i
overflow_add-i c = search (item_fits, rules)

pub loop-j-preserved : goal.loop-j-preserved
loop-j-preserved c = (search rules, (search rules, search macs_past))

pub overflow_add-i-2 : goal.overflow_add-i-2
overflow_add-i-2 c = search (last_fits, rules)

pub returns : goal.returns
returns c = search macs_last
