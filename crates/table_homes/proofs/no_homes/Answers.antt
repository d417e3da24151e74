-- `table_homes::no_homes` meets its contract.
use mathlib.Core.Path.{refl}
use Rattle.table_homes.specs.Pass.{no_homes}
use Rattle.table_homes.proofs.no_homes.Goals as goal

pub returns : goal.returns
unfolding no_homes
returns c = refl
