-- `flush_tlvs::vlan_in` meets its contract: each way out is a case of the definition.
use borrow.Author.Tests.{eq-eqb, ne_eqb}
use Rattle.numbers.proofs.Steps.{pick_first, pick_second}
use Rattle.flush.specs.Meaning.{vlan_in}
use Rattle.flush_tlvs.proofs.vlan_in.Goals as goal

pub returns-then-k-eq6 : goal.returns-then-k-eq6
unfolding vlan_in
returns-then-k-eq6 c = search (pick_first, pick_second, eq-eqb, ne_eqb) depth 8

pub returns-then-k-eq1 : goal.returns-then-k-eq1
unfolding vlan_in
returns-then-k-eq1 c = search (pick_first, pick_second, eq-eqb, ne_eqb) depth 8

pub returns-then-k-eq2 : goal.returns-then-k-eq2
unfolding vlan_in
returns-then-k-eq2 c = search (pick_first, pick_second, eq-eqb, ne_eqb) depth 8

pub returns : goal.returns
unfolding vlan_in
returns c = search (pick_first, pick_second, eq-eqb, ne_eqb) depth 8
