-- `hello_entry::put_smart_mac` meets its contract: type, length and label, and the MACs behind them.
use Rattle.hello_entry.proofs.Writes.{place_fits, macs-written}
use borrow.Author.Rules.{rules}
use Rattle.hello_entry.proofs.put_smart_mac.Goals as goal

pub overflow_add-i : goal.overflow_add-i
overflow_add-i c = search (place_fits, rules)

pub returns : goal.returns
returns c = search macs-written
