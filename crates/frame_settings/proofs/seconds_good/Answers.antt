-- `frame_settings::seconds_good` meets its contract: the tests are the definition's.
use mathlib.Core.Path.{refl}
use Rattle.numbers.specs.Tests.{both, either, between}
use Rattle.frame.specs.Settings.{seconds_good}
use Rattle.frame_settings.proofs.seconds_good.Goals as goal

pub returns : goal.returns
unfolding seconds_good either between both
returns c = refl
