-- `hello_entry::put_few_trees` meets its contract. The invariant: the rest put behind what is there makes the whole.
use mathlib.Core.Path.{refl}
use Rattle.hello_entry.proofs.Writes.{item_fits, numbers_none, numbers_next, numbers_done}
use borrow.Author.Rules.{rules}
use Rattle.hello_entry.proofs.put_few_trees.Goals as goal

pub loop-j-init : goal.loop-j-init
loop-j-init c = (refl, search numbers_none)

pub overflow_add-i : goal.overflow_add-i
overflow_add-i c = search (item_fits, rules)

pub loop-j-preserved : goal.loop-j-preserved
loop-j-preserved c = (search rules, search numbers_next)

pub returns : goal.returns
returns c = search numbers_done
