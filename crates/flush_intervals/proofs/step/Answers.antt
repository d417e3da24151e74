-- `flush_intervals::step` meets its contract: by arithmetic.
use Rattle.flush_intervals.proofs.Ranges.{step_is}
use mathlib.Core.Path.{refl}
use Rattle.flush_intervals.proofs.step.Goals as goal

pub returns : goal.returns
returns c = step_is c.args.v c.args.z c.args.h _ c.requires c.ranges.v.fits refl
