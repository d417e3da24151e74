-- `hello_entry::put_trees` meets its contract: type, length and first tree, and the nicknames behind them.
use Rattle.hello_entry.proofs.Writes.{place_fits, trees_written}
use borrow.Author.Rules.{rules}
use Rattle.hello_entry.proofs.put_trees.Goals as goal

pub overflow_add-i : goal.overflow_add-i
overflow_add-i c = search (place_fits, rules)

pub returns : goal.returns
returns c = search trees_written
