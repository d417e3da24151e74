-- `hello_entry::four_trees` meets its contract: each pair of bytes is the low one of a number.
use Rattle.numbers.specs.Bytes.{AreBytes}
use Rattle.hello_entry.proofs.Writes.{first_fits, four_fits, four_inside, four_are}
use borrow.Author.Rules.{rules}
use Rattle.hello_entry.proofs.four_trees.Goals as goal

pub overflow_mul-k : goal.overflow_mul-k
overflow_mul-k c = search (first_fits, rules)

pub overflow_add-k : goal.overflow_add-k
overflow_add-k c = search (four_fits, rules)

pub be8-requires : goal.be8-requires
be8-requires c = search (four_inside, rules)

pub overflow_add-k-2 : goal.overflow_add-k-2
overflow_add-k-2 c = search (four_fits, rules)

pub be8-requires-2 : goal.be8-requires-2
be8-requires-2 c = search (four_inside, rules)

pub overflow_add-k-3 : goal.overflow_add-k-3
overflow_add-k-3 c = search (four_fits, rules)

pub be8-requires-3 : goal.be8-requires-3
be8-requires-3 c = search (four_inside, rules)

pub overflow_add-k-4 : goal.overflow_add-k-4
overflow_add-k-4 c = search (four_fits, rules)

pub be8-requires-4 : goal.be8-requires-4
be8-requires-4 c = search (four_inside, rules)

pub returns : goal.returns
returns c = let bytes : AreBytes c.args.area.now = λ i. (c.shared_slice_known-1.given i).fits in search (four_are, bytes)
