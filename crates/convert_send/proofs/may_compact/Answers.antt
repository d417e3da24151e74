-- `convert_send::may_compact` meets its contract: the tests are the definition's.
use Rattle.numbers.specs.Tests.{both}
use Rattle.convert_send.proofs.may_compact.Goals as goal

pub returns : goal.returns
unfolding both
returns c = cc
