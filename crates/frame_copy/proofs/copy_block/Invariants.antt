use mathlib.Core.Path.{◌≡◌}
use Rattle.frame_copy.proofs.Copying.{Taken}
use lib.ListN.{length}
use Rattle.frame.specs.Formats.{longest_frame}
use lib.Seq.{paste}
use Rattle.frame_copy.proofs.copy_block.Given as goal

abbrev pub invariant-loop-i : goal.invariant-loop-i
invariant-loop-i l = (length l.block ≡ longest_frame) × Taken l.i l.block l.src

abbrev pub invariant-loop-j : goal.invariant-loop-j
invariant-loop-j l = (l.out ≡ paste l.initial.out l.at l.src l.j) × Taken (length l.src) l.block l.src
