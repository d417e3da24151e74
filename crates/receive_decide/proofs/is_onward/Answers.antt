-- `receive_decide::is_onward` meets its contract: the tests are the definition's.
use mathlib.Core.Path.{refl}
use Rattle.numbers.specs.Tests.{both}
use Rattle.receive_decide.specs.Meaning.{onward_of}
use Rattle.receive_decide.proofs.is_onward.Goals as goal

pub returns : goal.returns
unfolding onward_of both
returns c = refl
