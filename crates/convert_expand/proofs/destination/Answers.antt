-- `convert_expand::destination` meets its contract: M is read within the header.
use Rattle.convert_expand.proofs.Laws.{to_many, to_one}
use Rattle.convert_expand.proofs.destination.Goals as goal

pub returns-then-multicast-eq1 : goal.returns-then-multicast-eq1
returns-then-multicast-eq1 c = search to_many

pub returns : goal.returns
returns c = search to_one
