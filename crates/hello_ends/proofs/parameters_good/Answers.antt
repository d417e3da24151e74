-- `hello_ends::parameters_good` meets its contract: return by return.
use Rattle.hello_ends.proofs.Good.{parameters_short, parameters_first, parameters_second}
use Rattle.hello_ends.proofs.parameters_good.Goals as goal

pub returns-then-size-i : goal.returns-then-size-i
returns-then-size-i c = search parameters_short

pub returns-then-number-ge-TWO_BYTES : goal.returns-then-number-ge-TWO_BYTES
returns-then-number-ge-TWO_BYTES c = search parameters_first

pub returns : goal.returns
returns c = search parameters_second
