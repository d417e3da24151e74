use lib.Dec.{eqb}
use Rattle.numbers.specs.Numberings.{number_of, in_list}
use Rattle.flush_members.specs.Sound.{numbering}
use Rattle.flush_members.proofs.Laws.{Seeking}
use Rattle.flush_members.proofs.in_list.Given as goal

abbrev pub invariant-loop-i : goal.invariant-loop-i
invariant-loop-i l = Seeking (λ b. eqb (number_of (numbering l.size l.modulus l.low l.high) b) l.x) l.size (in_list (numbering l.size l.modulus l.low l.high) l.x l.v) l.v l.i
