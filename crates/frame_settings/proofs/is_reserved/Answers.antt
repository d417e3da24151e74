-- `frame_settings::is_reserved` meets its contract: the tests are the definition's.
use Rattle.numbers.specs.Tests.{either}
use Rattle.frame.specs.Front.{reserved_group}
use Rattle.frame_settings.proofs.is_reserved.Goals as goal

pub returns : goal.returns
unfolding reserved_group either
returns c = cc
