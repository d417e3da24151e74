-- `port_map_one::other_vlan` meets its contract: the test is the definition's.
use borrow.Author.Tests.{eq-eqb, ne_eqb}
use Rattle.numbers.specs.Tests.{pick}
use Rattle.port_map_one.proofs.other_vlan.Goals as goal

pub returns-then-v-eq1 : goal.returns-then-v-eq1
unfolding pick
returns-then-v-eq1 c = rw (eq-eqb _ _ c.if-v-eq1.true)

pub returns : goal.returns
unfolding pick
returns c = rw (ne_eqb _ _ c.if-v-eq1.false)
