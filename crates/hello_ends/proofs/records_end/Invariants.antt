use Prim.Native.Nat.{◌+◌, ◌-◌, ◌*◌}
use mathlib.Core.Path.{◌≡◌}
use Rattle.hello.specs.Area.{take_many}
use Rattle.hello_area.specs.Entries.{numbers_in, reach, take_item}
use Rattle.hello_ends.proofs.records_end.Given as goal

abbrev pub invariant-loop-j : goal.invariant-loop-j
invariant-loop-j l = reach (take_many (take_item 6) (l.m - l.j)) (numbers_in l.area) (l.i + 3 * l.j) ≡ reach (take_many (take_item 6) l.m) (numbers_in l.area) l.i
