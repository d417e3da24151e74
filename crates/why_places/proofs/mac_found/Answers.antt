-- `why_places::mac_found` meets its contract: no MAC was noted or gathered, or the place that the walk answers.
use Rattle.why_places.proofs.Meant.{mac_unnoted, mac_every, mac_not, mac_meant_lem}
use Rattle.why_places.proofs.mac_found.Goals as goal

pub returns-then-not-noted : goal.returns-then-not-noted
returns-then-not-noted c = search mac_unnoted

pub returns-then-not-some_mac : goal.returns-then-not-some_mac
returns-then-not-some_mac c = search mac_every

pub returns-in_default : goal.returns-in_default
returns-in_default c = search mac_not

pub returns : goal.returns
returns c = search mac_meant_lem
