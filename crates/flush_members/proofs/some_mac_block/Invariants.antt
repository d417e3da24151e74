use Rattle.numbers.specs.Numberings.{macs, filled, some_filled}
use Rattle.flush_members.proofs.Laws.{Seeking}
use Rattle.flush_members.proofs.some_mac_block.Given as goal

abbrev pub invariant-loop-i : goal.invariant-loop-i
invariant-loop-i l = Seeking (filled macs) 12 (some_filled macs l.v) l.v l.i
