-- `numbers::at_least` meets its contract.
use Rattle.numbers.proofs.Truth.{least_second, least_first}
use Rattle.numbers.proofs.at_least.Goals as goal

pub returns-then-m-n : goal.returns-then-m-n
returns-then-m-n c = search least_second

pub returns : goal.returns
returns c = search least_first
