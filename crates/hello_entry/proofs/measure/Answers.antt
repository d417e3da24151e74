-- `hello_entry::measure` meets its contract: type by type.
use Rattle.hello_entry.proofs.Counts.{alone-count, alone_ends, alone_fits, alone_long, alone_room, nicknames-count, nicknames_start, nicknames_step, nicknames_few, nicknames_bytes, nicknames_size, records_fit, nicknames_fit, nicknames_end, nicknames_long, nicknames_room, trees_count, trees_start, trees_step, trees_few, trees_bytes, trees_size, trees_fit, trees_end, trees_long, trees_room, macs-count, macs_start, macs_step, macs_few, macs_bytes, macs_size, macs_fit, macs_end, macs_long, macs_room}
use borrow.Author.Rules.{rules}
use Rattle.hello_entry.proofs.measure.Goals as goal

pub overflow_add-result : goal.overflow_add-result
overflow_add-result c = search (alone_fits, rules)

pub returns-then-kind-eq-PARAMETERS : goal.returns-then-kind-eq-PARAMETERS
returns-then-kind-eq-PARAMETERS c = ((search alone-count, search alone_ends), (search alone_long, search alone_room))

pub number-m-requires : goal.number-m-requires
number-m-requires c = search nicknames_start

pub overflow_mul-result : goal.overflow_mul-result
overflow_mul-result c = search (nicknames_bytes, rules)

pub overflow_add-result-then-kind-eq-NICKNAME : goal.overflow_add-result-then-kind-eq-NICKNAME
overflow_add-result-then-kind-eq-NICKNAME c = search (nicknames_size, rules)

pub overflow_add-result-then-kind-eq-NICKNAME-2 : goal.overflow_add-result-then-kind-eq-NICKNAME-2
overflow_add-result-then-kind-eq-NICKNAME-2 c = search (nicknames_step, rules)

pub overflow_mul-result-then-kind-eq-NICKNAME : goal.overflow_mul-result-then-kind-eq-NICKNAME
overflow_mul-result-then-kind-eq-NICKNAME c = search (records_fit, rules)

pub overflow_add-result-then-kind-eq-NICKNAME-3 : goal.overflow_add-result-then-kind-eq-NICKNAME-3
overflow_add-result-then-kind-eq-NICKNAME-3 c = search (nicknames_fit, rules)

pub returns-then-kind-eq-NICKNAME : goal.returns-then-kind-eq-NICKNAME
returns-then-kind-eq-NICKNAME c = ((search nicknames-count, search nicknames_end), (search nicknames_long, search (nicknames_room, nicknames_few)))

pub overflow_add-i : goal.overflow_add-i
overflow_add-i c = search (trees_step, rules)

pub number-m-requires-then-kind-eq-TREES : goal.number-m-requires-then-kind-eq-TREES
number-m-requires-then-kind-eq-TREES c = search trees_start

pub overflow_mul-result-then-kind-eq-TREES : goal.overflow_mul-result-then-kind-eq-TREES
overflow_mul-result-then-kind-eq-TREES c = search (trees_bytes, rules)

pub overflow_add-result-then-kind-eq-TREES : goal.overflow_add-result-then-kind-eq-TREES
overflow_add-result-then-kind-eq-TREES c = search (trees_size, rules)

pub overflow_add-result-then-kind-eq-TREES-2 : goal.overflow_add-result-then-kind-eq-TREES-2
overflow_add-result-then-kind-eq-TREES-2 c = search (trees_step, rules)

pub overflow_add-result-then-kind-eq-TREES-3 : goal.overflow_add-result-then-kind-eq-TREES-3
overflow_add-result-then-kind-eq-TREES-3 c = search (trees_fit, rules)

pub returns-then-kind-eq-TREES : goal.returns-then-kind-eq-TREES
returns-then-kind-eq-TREES c = ((search trees_count, search trees_end), (search trees_long, search (trees_room, trees_few)))

pub overflow_add-i-2 : goal.overflow_add-i-2
overflow_add-i-2 c = search (macs_step, rules)

pub number-m-requires-2 : goal.number-m-requires-2
number-m-requires-2 c = search macs_start

pub overflow_mul-result-2 : goal.overflow_mul-result-2
overflow_mul-result-2 c = search (macs_bytes, rules)

pub overflow_add-result-2 : goal.overflow_add-result-2
overflow_add-result-2 c = search (macs_size, rules)

pub overflow_add-result-3 : goal.overflow_add-result-3
overflow_add-result-3 c = search (macs_step, rules)

pub overflow_add-result-4 : goal.overflow_add-result-4
overflow_add-result-4 c = search (macs_fit, rules)

pub returns : goal.returns
returns c = ((search macs-count, search macs_end), (search macs_long, search (macs_room, macs_few)))
