use Prim.Native.Nat.{◌+◌, ◌^◌, ◌<◌}
use mathlib.Core.List.{◌++◌}
use mathlib.Core.Path.{◌≡◌}
use lib.ListN.{length, take}
use Rattle.report_set.specs.Set.{word_bits, word_tallies}
use Rattle.report_set.proofs.list_word.Given as goal

abbrev pub invariant-loop-left : goal.invariant-loop-left
invariant-loop-left l = (l.left < 2 ^ 64) × ((l.c + length (word_tallies word_bits l.x l.left) ≡ l.n + length (word_tallies word_bits l.x l.w)) × ((length l.out ≡ length l.initial.out) × (take l.c l.out ++ word_tallies word_bits l.x l.left ≡ take l.n l.initial.out ++ word_tallies word_bits l.x l.w)))

abbrev pub decreases-loop-left : goal.decreases-loop-left
decreases-loop-left l = l.left
