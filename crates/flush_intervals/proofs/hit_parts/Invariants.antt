use Rattle.std.proofs.Common.{◌≡◌, not, nat_eq}
use Rattle.std.specs.Slice.Iter.{chunks_exact_rest, chunks_exact_size}
use Rattle.flush_intervals.proofs.Walks.{Hitting}
use Rattle.flush_intervals.proofs.hit_parts.Given as goal

abbrev pub invariant-loop-part : goal.invariant-loop-part
invariant-loop-part g l = (chunks_exact_size l.part-iterator ≡ l.k) × Hitting (not (nat_eq g.row.BLOCKS 0)) l.w l.v l.keys l.initial.hits l.hits (chunks_exact_rest l.part-iterator)
