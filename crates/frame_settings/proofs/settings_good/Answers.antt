-- `frame_settings::settings_good` meets its contract: the tests are the definition's.
use Rattle.numbers.specs.Tests.{both}
use Rattle.frame.specs.Settings.{settings_good}
use Rattle.frame_settings.proofs.settings_good.Goals as goal

pub returns : goal.returns
unfolding settings_good both
returns c = cc
