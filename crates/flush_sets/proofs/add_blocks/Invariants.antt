use Rattle.std.specs.Slice.Iter.{chunks_exact_rest, chunks_exact_size}
use mathlib.Core.Path.{◌≡◌}
use Rattle.flush_sets.proofs.Adding.{covers, Parted}
use Rattle.flush_sets.proofs.add_blocks.Given as goal

abbrev pub invariant-loop-block : goal.invariant-loop-block
invariant-loop-block l = (chunks_exact_size l.block-iterator ≡ 4) × Parted 4 covers l.v l.initial.s l.s (chunks_exact_rest l.block-iterator)
