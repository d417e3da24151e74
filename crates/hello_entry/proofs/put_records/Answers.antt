-- `hello_entry::put_records` meets its contract. The invariant: the rest put behind what is there makes the whole.
use mathlib.Core.Path.{refl}
use Rattle.hello_entry.proofs.Writes.{record_fits, triple_fits, records_none, records_next, records_done}
use borrow.Author.Rules.{rules}
use Rattle.hello_entry.proofs.put_records.Goals as goal

pub loop-j-init : goal.loop-j-init
loop-j-init c = (refl, search records_none)

pub overflow_mul-j : goal.overflow_mul-j
overflow_mul-j c = search (triple_fits, rules)

pub overflow_add-i : goal.overflow_add-i
overflow_add-i c = search (record_fits, rules)

pub loop-j-preserved : goal.loop-j-preserved
loop-j-preserved c = (search rules, search records_next)

pub returns : goal.returns
returns c = search records_done
