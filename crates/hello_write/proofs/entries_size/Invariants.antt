use Prim.Native.Nat.{◌-◌, ◌*◌, ◌≤◌}
use mathlib.Core.Path.{◌≡◌}
use lib.ListN.{length}
use Rattle.hello.specs.Area.{take_many}
use Rattle.hello_area.specs.Entries.{numbers_in, take_sub, reach, subs_at}
use Rattle.hello_put.specs.Placing.{stepped_all}
use Rattle.hello_write.proofs.entries_size.Given as goal

abbrev pub invariant-loop : goal.invariant-loop
invariant-loop g l = ((l.at ≤ length (numbers_in l.area)) × ((l.d.start ≤ l.d.at) × (l.d.at ≤ 9 * l.at))) × ((reach (take_many (take_sub g.row.KIND) (l.m - l.counter)) (numbers_in l.area) l.at ≡ reach (take_many (take_sub g.row.KIND) l.m) (numbers_in l.area) l.i) × (stepped_all l.d (subs_at g.row.KIND (numbers_in l.area) l.at (l.m - l.counter)) ≡ stepped_all l.initial.d (subs_at g.row.KIND (numbers_in l.area) l.i l.m)))
