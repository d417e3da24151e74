-- `port_map_judge::middling_good` meets its contract: no whole pairs, VLANs, labels.
use Rattle.port_map_judge.proofs.Laws.{good_cut, good_vlans, good_labels}
use Rattle.port_map_judge.proofs.middling_good.Goals as goal

pub returns-then-map-ne0 : goal.returns-then-map-ne0
returns-then-map-ne0 c = search good_cut

pub returns-then-not-vlans_good : goal.returns-then-not-vlans_good
returns-then-not-vlans_good c = search good_vlans

pub returns : goal.returns
returns c = search good_labels
