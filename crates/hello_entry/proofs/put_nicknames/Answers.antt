-- `hello_entry::put_nicknames` meets its contract: type and length, and the records behind them.
use Rattle.hello_entry.proofs.Writes.{place_fits, nicknames-written}
use borrow.Author.Rules.{rules}
use Rattle.hello_entry.proofs.put_nicknames.Goals as goal

pub overflow_add-i : goal.overflow_add-i
overflow_add-i c = search (place_fits, rules)

pub returns : goal.returns
returns c = search nicknames-written
