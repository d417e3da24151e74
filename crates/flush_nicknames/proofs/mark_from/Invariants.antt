use mathlib.Core.Path.{◌≡◌}
use Rattle.flush_marks.specs.Marks.{MarkedTo}
use Rattle.flush_nicknames.specs.First.{slot_marked}
use Rattle.flush_nicknames.proofs.mark_from.Given as goal

abbrev pub invariant-loop-k : goal.invariant-loop-k
invariant-loop-k g c = (c.end ≡ c.k) × MarkedTo (slot_marked (g.N.NameTest.names c.n) (g.L.LabelTest.vlans c.l) (g.L.LabelTest.fines c.l)) c.from c.table c.k c.marks
