-- `convert_compact::stays_general` meets its contract: the tests are the definition's.
use Rattle.convert.specs.Compaction.{stays_general}
use Rattle.numbers.specs.Tests.{either}
use Rattle.convert_compact.proofs.stays_general.Goals as goal

pub returns : goal.returns
unfolding stays_general either
returns c = cc
