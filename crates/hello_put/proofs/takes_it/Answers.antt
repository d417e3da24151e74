-- `hello_put::takes_it` meets its contract: the type, then the length of the value.
use Rattle.hello_put.proofs.Laws.{takes_other, takes_same}
use Rattle.hello_put.proofs.takes_it.Goals as goal

pub returns-then-c-h : goal.returns-then-c-h
returns-then-c-h c = search takes_other

pub returns : goal.returns
returns c = search takes_same
