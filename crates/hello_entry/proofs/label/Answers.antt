-- `hello_entry::label` meets its contract: the numbers are below their limits, so that nothing is lost.
use Rattle.hello_entry.proofs.Writes.{number_fits, fine_fits, multihomed_fits, multihomed_behind, label_behind, label_is}
use borrow.Author.Rules.{rules}
use Rattle.hello_entry.proofs.label.Goals as goal

pub overflow_mul-result : goal.overflow_mul-result
overflow_mul-result c = search (fine_fits, rules)

pub overflow_add-i : goal.overflow_add-i
overflow_add-i c = search (number_fits, rules)

pub overflow_mul-result-2 : goal.overflow_mul-result-2
overflow_mul-result-2 c = search (multihomed_fits, rules)

pub overflow_add-result : goal.overflow_add-result
overflow_add-result c = search (multihomed_behind, rules)

pub overflow_add-i-2 : goal.overflow_add-i-2
overflow_add-i-2 c = search (number_fits, rules)

pub overflow_add-result-2 : goal.overflow_add-result-2
overflow_add-result-2 c = search (label_behind, rules)

pub returns : goal.returns
returns c = search label_is
