-- `hello_entry::put_tree_nicknames` meets its contract. The invariant: what is there are the first ones; the last four go over some of them.
use mathlib.Core.Path.{refl}
use Rattle.hello_entry.proofs.Writes.{trees_fit, last_fits, fours_none, fours_on, fours_end}
use borrow.Author.Rules.{rules}
use Rattle.hello_entry.proofs.put_tree_nicknames.Goals as goal

pub loop-k-init : goal.loop-k-init
loop-k-init c = (refl, search fours_none)

pub overflow_add-i : goal.overflow_add-i
overflow_add-i c = search (trees_fit, rules)

pub loop-k-preserved : goal.loop-k-preserved
loop-k-preserved c = (search rules, search (fours_on, rules))

pub overflow_add-i-2 : goal.overflow_add-i-2
overflow_add-i-2 c = search (last_fits, rules)

pub returns : goal.returns
returns c = search fours_end
