-- `frame_settings::later_good` meets its contract: the tests are the definition's.
use Rattle.numbers.specs.Tests.{both}
use Rattle.frame.specs.Settings.{later_good}
use Rattle.frame_settings.proofs.later_good.Goals as goal

pub returns : goal.returns
unfolding later_good both
returns c = cc
