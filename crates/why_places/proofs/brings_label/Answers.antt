-- `why_places::brings_label` meets its contract: by the kind of the label.
use Rattle.numbers.specs.Tests.{both}
use Rattle.flush.specs.Meaning.{brings_label}
use Rattle.flush_tlvs.proofs.Laws.{label_vlan, label_fine}
use Rattle.why_places.proofs.brings_label.Goals as goal

pub returns-then-kind-eq0 : goal.returns-then-kind-eq0
unfolding brings_label both
returns-then-kind-eq0 c = rw (label_vlan _ _ c.if-kind-eq0.true) c.vlan_in.ensures

pub returns : goal.returns
unfolding brings_label both
returns c = rw (label_fine _ _ c.if-kind-eq0.false) c.fine_in.ensures
