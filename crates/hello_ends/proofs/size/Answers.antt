-- `hello_ends::size` meets its contract: return by return.
use Rattle.hello_ends.proofs.Numbers.{numbers_length}
use mathlib.Core.Path.{sym}
use borrow.Author.Rules.{rules}
use Rattle.hello_ends.proofs.size.Goals as goal

pub returns : goal.returns
returns c = (sym (numbers_length _), search rules)
