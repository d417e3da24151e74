-- `ingress_pairs::ingress_found` meets its contract: the frame is taken in with the map of at most one pair.
use Rattle.port_map_one.proofs.Alike.{lent_is}
use Rattle.ingress_pairs.proofs.Laws.{ingress_found}
use Rattle.ingress_pairs.proofs.ingress_found.Goals as goal

pub returns : goal.returns
returns c ps searched asked =
    let a = c.args in
    ingress_found a.s a.u a.f.now a.out.now a.n a.good a.v a.found _
    (lent_is a.n a.good _ _ c.pair_for_vlan-p.ensures _ c.pair_bytes-one.ensures _ c.lent_bytes-k.ensures.0)
    _ c.ingress.ensures ps searched asked
