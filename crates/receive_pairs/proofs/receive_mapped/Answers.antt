-- `receive_pairs::receive_mapped` meets its contract: what was judged, asked and found is what the call with one pair wants.
use Rattle.std.proofs.Common.{refl}
use Rattle.receive_pairs.proofs.receive_mapped.Goals as goal

pub returns : goal.returns
returns c =
    c.receive_found.ensures c.args.map.now
    (record { count = refl; judged = c.map_good-good.ensures; searched = c.vlan_for-found.ensures })
    c.label_asked-l.ensures
