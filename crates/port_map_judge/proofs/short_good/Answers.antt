-- `port_map_judge::short_good` meets its contract: none, no whole pairs, VLANs, labels.
use Rattle.port_map_judge.proofs.Laws.{good_empty, good_cut, good_vlans, good_labels}
use Rattle.port_map_judge.proofs.short_good.Goals as goal

pub returns-then-map-eq0 : goal.returns-then-map-eq0
returns-then-map-eq0 c = search good_empty

pub returns-then-map-ne0 : goal.returns-then-map-ne0
returns-then-map-ne0 c = search good_cut

pub returns-then-not-vlans_apart : goal.returns-then-not-vlans_apart
returns-then-not-vlans_apart c = search good_vlans

pub returns : goal.returns
returns c = search good_labels
