-- `hello_entry::put_parameters` meets its contract: type and length, and two numbers behind them.
use Rattle.hello_entry.proofs.Writes.{number_fits, parameters_written}
use borrow.Author.Rules.{rules}
use Rattle.hello_entry.proofs.put_parameters.Goals as goal

pub overflow_add-i : goal.overflow_add-i
overflow_add-i c = search (number_fits, rules)

pub returns : goal.returns
returns c = search parameters_written
