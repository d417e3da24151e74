use Rattle.numbers.specs.Numberings.{in_block, in_blocks}
use Rattle.flush_members.specs.Sound.{numbering}
use Rattle.flush_members.proofs.Laws.{Seeking}
use Rattle.flush_members.proofs.in_blocks.Given as goal

abbrev pub invariant-loop-i : goal.invariant-loop-i
invariant-loop-i l = Seeking (in_block (numbering l.size l.modulus l.low l.high) l.x) l.k (in_blocks (numbering l.size l.modulus l.low l.high) l.x l.v) l.v l.i
