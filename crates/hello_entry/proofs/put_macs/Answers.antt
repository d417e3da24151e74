-- `hello_entry::put_macs` meets its contract. The invariant: the rest put behind what is there makes the whole.
use mathlib.Core.Path.{refl}
use Rattle.hello_entry.proofs.Writes.{macs_fit, numbers_none, macs_on, macs_few}
use borrow.Author.Rules.{rules}
use Rattle.hello_entry.proofs.put_macs.Goals as goal

pub loop-k-init : goal.loop-k-init
loop-k-init c = (refl, search numbers_none)

pub overflow_add-i : goal.overflow_add-i
overflow_add-i c = search (macs_fit, rules)

pub loop-k-preserved : goal.loop-k-preserved
loop-k-preserved c = (search rules, search macs_on)

pub overflow_add-i-2 : goal.overflow_add-i-2
overflow_add-i-2 c = search (macs_fit, rules)

pub returns : goal.returns
returns c = search macs_few
