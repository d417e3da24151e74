use Prim.Native.Nat.{◌*◌}
use mathlib.Core.Path.{◌≡◌}
use lib.ListN.{length}
use Rattle.frame_copy.specs.Areas.{pasted}
use Rattle.hello_area.specs.Entries.{numbers_in}
use Rattle.hello_entry.specs.Bytes.{number_at, run}
use Rattle.hello_entry.proofs.Writes.{Left}
use Rattle.hello_entry.proofs.put_macs.Given as goal

abbrev pub invariant-loop-k : goal.invariant-loop-k
invariant-loop-k l = (length l.out ≡ length l.initial.out) × (Left (number_at 6 (numbers_in l.area)) 1 6 l.i l.m l.out l.at (4 * l.k) ≡ pasted l.initial.out l.at (run (number_at 6 (numbers_in l.area)) 1 l.i l.m))
