-- `frame_settings::is_trill_group` meets its contract: the tests are the definition's.
use mathlib.Core.Path.{refl}
use Rattle.numbers.specs.Tests.{both, between}
use Rattle.frame.specs.Front.{trill_group}
use Rattle.frame_settings.proofs.is_trill_group.Goals as goal

pub returns : goal.returns
unfolding trill_group between both
returns c = refl
