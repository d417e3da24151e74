-- `hello_ends::number_over` meets its contract: the high bytes of a number are the low ones of the word.
use Rattle.hello_ends.proofs.Sums.{eight_fits, twelve_fits, first_half, second_half, number_over_two, number_over_six}
use borrow.Author.Rules.{rules}
use Rattle.hello_ends.proofs.number_over.Goals as goal

pub overflow_mul-i : goal.overflow_mul-i
overflow_mul-i c = search (eight_fits, rules)

pub le4-requires : goal.le4-requires
le4-requires c = search first_half

pub overflow_mul-i-2 : goal.overflow_mul-i-2
overflow_mul-i-2 c = search (eight_fits, rules)

pub overflow_add-i : goal.overflow_add-i
overflow_add-i c = search (twelve_fits, rules)

pub le4-requires-2 : goal.le4-requires-2
le4-requires-2 c = search second_half

pub returns-then-top-eq65536 : goal.returns-then-top-eq65536
returns-then-top-eq65536 c = search number_over_two

pub returns : goal.returns
returns c = search number_over_six
