-- `receive_pairs::receive_found` meets its contract: the frame is read with the map of at most one pair.
use Rattle.port_map_one.proofs.Alike.{lent_is}
use Rattle.receive_pairs.proofs.Laws.{read_found}
use Rattle.receive_pairs.proofs.receive_found.Goals as goal

pub returns : goal.returns
returns c ps searched asked =
    let a = c.args in
    read_found a.s a.f.now a.table.now a.out.now a.n a.good a.l a.found _
    (lent_is a.n a.good _ _ c.pair_for_label-p.ensures _ c.pair_bytes-one.ensures _ c.lent_bytes-k.ensures.0)
    _ c.receive_port.ensures ps searched asked
