-- `hello_entry::put_low` meets its contract: the last bytes of a number are its low ones.
use Rattle.numbers.specs.Bytes.{AreBytes}
use Rattle.hello_entry.proofs.Writes.{eight_fits, low_inside, low_fits, low_put}
use borrow.Author.Rules.{rules}
use Rattle.hello_entry.proofs.put_low.Goals as goal

pub overflow_mul-i : goal.overflow_mul-i
overflow_mul-i c = search (eight_fits, rules)

pub overflow_add-i : goal.overflow_add-i
overflow_add-i c = search (low_fits, rules)

pub part-requires : goal.part-requires
part-requires c = search low_inside

pub returns : goal.returns
returns c = let bytes : AreBytes c.args.area.now = λ i. (c.shared_slice_known-1.given i).fits in search (low_put, bytes)
