-- `ingress_pairs::ingress_mapped` meets its contract: what was judged, asked and found is what the call with one pair wants.
use Rattle.std.proofs.Common.{refl}
use Rattle.ingress_pairs.proofs.ingress_mapped.Goals as goal

pub returns : goal.returns
returns c =
    c.ingress_found.ensures c.args.map.now
    (record { count = refl; judged = c.map_good-good.ensures; searched = c.label_for-found.ensures })
    c.vlan_asked-v.ensures
