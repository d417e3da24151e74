-- `watch_time::larger` meets its contract: the tests are the definition's.
use Rattle.numbers.proofs.Truth.{least_second, least_first}
use Rattle.watch_time.proofs.larger.Goals as goal

pub returns-then-m-n : goal.returns-then-m-n
returns-then-m-n c = search least_second

pub returns : goal.returns
returns c = search least_first
