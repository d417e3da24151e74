-- `hello_write::holder` meets its contract: by type.
use Rattle.hello_write.proofs.Walking.{holder_22, holder_23, holder_other}
use borrow.Author.Rules.{rules}
use Rattle.hello_write.proofs.holder.Goals as goal

pub returns-then-kind-eq-PARAMETERS : goal.returns-then-kind-eq-PARAMETERS
returns-then-kind-eq-PARAMETERS c = (search holder_22, search rules)

pub returns-then-kind-eq-SMART_MAC : goal.returns-then-kind-eq-SMART_MAC
returns-then-kind-eq-SMART_MAC c = (search holder_23, search rules)

pub returns : goal.returns
returns c = (search holder_other, search rules)
