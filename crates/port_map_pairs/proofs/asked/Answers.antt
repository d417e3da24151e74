-- `port_map_pairs::asked` meets its contract: each question, and the test that it puts.
use Rattle.std.proofs.Common.{sym, eq-eqb}
use borrow.Author.Tests.{ne_eqb}
use Rattle.numbers.specs.Tests.{pick}
use Rattle.port_map_pairs.specs.Scan.{asked_of}
use Rattle.port_map_pairs.proofs.asked.Goals as goal

pub returns-then-label-w : goal.returns-then-label-w
unfolding asked_of pick
returns-then-label-w c = rw (c.in-VlanOf.is, eq-eqb _ _ c.if-label-w.true)

pub returns-else-label-w : goal.returns-else-label-w
unfolding asked_of pick
returns-else-label-w c = rw (c.in-VlanOf.is, ne_eqb _ _ c.if-label-w.false)

pub returns-then-vlan-w : goal.returns-then-vlan-w
unfolding asked_of pick
returns-then-vlan-w c = rw (c.in-LabelOf.is, eq-eqb _ _ c.if-vlan-w.true)

pub returns-else-vlan-w : goal.returns-else-vlan-w
unfolding asked_of pick
returns-else-vlan-w c = rw (c.in-LabelOf.is, ne_eqb _ _ c.if-vlan-w.false)

pub returns-then-twins : goal.returns-then-twins
unfolding asked_of pick
returns-then-twins c = rw (c.in-TwinOf.is, sym c.twins.ensures, c.if-twins.true)

pub returns-else-twins : goal.returns-else-twins
unfolding asked_of pick
returns-else-twins c = rw (c.in-TwinOf.is, sym c.twins.ensures, c.if-twins.false)
