use Prim.Native.Nat.{◌*◌, ◌≤◌}
use lib.ListN.{length}
use Rattle.hello_area.specs.Entries.{numbers_in}
use Rattle.hello_ends.proofs.Sums.{Sums}
use Rattle.hello_ends.proofs.numbers_good.Given as goal

abbrev pub invariant-loop-j : goal.invariant-loop-j
invariant-loop-j l = (l.sum ≤ 0x1_0000_0000_0000 * l.j) × Sums (numbers_in l.area) l.i l.m l.top (length (numbers_in l.area)) l.sum l.j
