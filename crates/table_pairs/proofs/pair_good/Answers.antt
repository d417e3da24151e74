-- `table_pairs::pair_good` meets its contract: the tests are those of the label and of the address.
use Rattle.table_pairs.proofs.Laws.{pair_test}
use Rattle.table_pairs.proofs.pair_good.Goals as goal

pub returns : goal.returns
returns c =
    let a = c.args in
    pair_test a.kind a.label a.mac c.requires.0 c.requires.1.0 _ _ c.vlan_good.ensures c.is_individual.ensures
