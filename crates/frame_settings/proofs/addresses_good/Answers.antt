-- `frame_settings::addresses_good` meets its contract: the tests are the definition's.
use Rattle.numbers.specs.Tests.{both}
use Rattle.frame.specs.Settings.{addresses_good}
use Rattle.frame_settings.proofs.addresses_good.Goals as goal

pub returns : goal.returns
unfolding addresses_good both
returns c = cc
