-- `receive_decide::nicknames_good` meets its contract: the tests are the definition's.
use Rattle.numbers.specs.Tests.{both, either}
use Rattle.receive_decide.specs.Meaning.{nicknames_of}
use Rattle.receive_decide.proofs.nicknames_good.Goals as goal

pub returns : goal.returns
unfolding nicknames_of both either
returns c = cc
