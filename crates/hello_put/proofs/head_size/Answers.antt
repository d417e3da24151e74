-- `hello_put::head_size` meets its contract: by type.
use Rattle.hello_put.proofs.Laws.{head-capability, head-geninfo}
use borrow.Author.Rules.{rules}
use Rattle.hello_put.proofs.head_size.Goals as goal

pub returns-then-h-eq-CAPABILITY : goal.returns-then-h-eq-CAPABILITY
returns-then-h-eq-CAPABILITY c = (search head-capability, search rules)

pub returns : goal.returns
returns c = (search head-geninfo, search rules)
