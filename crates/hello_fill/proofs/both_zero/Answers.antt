-- `hello_fill::both_zero` meets its contract: return by return.
use Rattle.hello_fill.proofs.Subs.{zero_not, zero_then}
use Rattle.hello_fill.proofs.both_zero.Goals as goal

pub returns-then-n-ne0 : goal.returns-then-n-ne0
returns-then-n-ne0 c = search zero_not

pub returns : goal.returns
returns c = search zero_then
