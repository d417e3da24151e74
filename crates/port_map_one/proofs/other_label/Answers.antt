-- `port_map_one::other_label` meets its contract: the test is the definition's.
use borrow.Author.Tests.{eq-eqb, ne_eqb}
use Rattle.numbers.specs.Tests.{pick}
use Rattle.port_map_one.proofs.other_label.Goals as goal

pub returns-then-l-eq0 : goal.returns-then-l-eq0
unfolding pick
returns-then-l-eq0 c = rw (eq-eqb _ _ c.if-l-eq0.true)

pub returns : goal.returns
unfolding pick
returns c = rw (ne_eqb _ _ c.if-l-eq0.false)
