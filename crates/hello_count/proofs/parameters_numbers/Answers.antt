-- `hello_count::parameters_numbers` meets its contract: return by return.
use Rattle.hello_count.proofs.Subs.{numbers_22, zero_22}
use borrow.Author.Rules.{rules}
use Rattle.hello_count.proofs.parameters_numbers.Goals as goal

pub returns-then-v-eq4 : goal.returns-then-v-eq4
returns-then-v-eq4 c = (search numbers_22, search rules)

pub returns : goal.returns
returns c = (search zero_22, search rules)
