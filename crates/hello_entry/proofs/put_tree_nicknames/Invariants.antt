use Prim.Native.Nat.{◌*◌}
use mathlib.Core.Path.{◌≡◌}
use lib.ListN.{length}
use Rattle.frame_copy.specs.Areas.{pasted}
use Rattle.hello_area.specs.Entries.{numbers_in}
use Rattle.hello_entry.specs.Bytes.{number_at, run}
use Rattle.hello_entry.proofs.put_tree_nicknames.Given as goal

abbrev pub invariant-loop-k : goal.invariant-loop-k
invariant-loop-k l = (length l.out ≡ length l.initial.out) × (l.out ≡ pasted l.initial.out l.at (run (number_at 2 (numbers_in l.area)) 1 l.i (4 * l.k)))
