-- `frame_settings::is_control` meets its contract: the tests are the definition's.
use mathlib.Core.Path.{refl}
use Rattle.numbers.specs.Tests.{both, either, between}
use Rattle.frame.specs.Front.{control_address}
use Rattle.frame_settings.proofs.is_control.Goals as goal

pub returns : goal.returns
unfolding control_address between both either
returns c = refl
