-- `table_records::label_of` meets its contract: the kind decides, and a good VLAN fits 16 bits.
use native.Mathlib.Omega.{arith}
use Rattle.table_records.proofs.Laws.{vlan_fits, label_vlan, label_fine}
use Rattle.table_records.proofs.label_of.Goals as goal

pub overflow_cast-result : goal.overflow_cast-result
overflow_cast-result c = omega (arith, vlan_fits c.args.b c.requires.0 c.requires.1 c.if-b-eq-VLAN_KIND.true)

pub returns-then-b-eq-VLAN_KIND : goal.returns-then-b-eq-VLAN_KIND
returns-then-b-eq-VLAN_KIND c = label_vlan c.args.b c.requires.0 c.requires.1 c.if-b-eq-VLAN_KIND.true

pub returns-else-b-eq-VLAN_KIND : goal.returns-else-b-eq-VLAN_KIND
returns-else-b-eq-VLAN_KIND c = label_fine c.args.b c.requires.0 c.requires.1 c.if-b-eq-VLAN_KIND.false
