use Prim.Native.Nat.{◌+◌, ◌*◌, ◌≤◌}
use mathlib.Core.Path.{◌≡◌}
use lib.ListN.{length}
use Rattle.hello_words.specs.Words.{record_words}
use Rattle.hello_words.proofs.Parts.{Left}
use Rattle.hello_words.proofs.put_records.Given as goal

abbrev pub invariant-loop-i : goal.invariant-loop-i
invariant-loop-i l = (l.at + 24 * l.n ≤ length l.out) × ((length l.out ≡ length l.initial.out) × (Left 5 24 record_words l.v l.at l.out l.i ≡ Left 5 24 record_words l.v l.at l.initial.out 1))
