-- `hello_fill::numbers_of` meets its contract: each type by its own function.
use mathlib.Core.Path.{◌≡◌}
use Rattle.hello_fill.proofs.Subs.{read_last}
use Rattle.hello_fill.proofs.numbers_of.Goals as goal

pub returns-in_default : goal.returns-in_default
returns-in_default g c = let e : g.row.KIND ≡ 23 = search read_last in rw e c.smart_mac_numbers.ensures.0
