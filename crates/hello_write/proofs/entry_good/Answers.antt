-- `hello_write::entry_good` meets its contract: each type by its own function.
use mathlib.Core.Path.{◌≡◌}
use Rattle.hello_write.proofs.Walking.{section_last}
use Rattle.hello_write.proofs.entry_good.Goals as goal

pub returns-in_default : goal.returns-in_default
returns-in_default g c = let e : g.row.KIND ≡ 23 = search section_last in rw e c.macs_good.ensures
