-- `frame_settings::numbers_good` meets its contract: the tests are the definition's.
use Rattle.numbers.specs.Tests.{both}
use Rattle.frame.specs.Settings.{numbers_good}
use Rattle.frame_settings.proofs.numbers_good.Goals as goal

pub returns : goal.returns
unfolding numbers_good both
returns c = cc
