-- `ingress_pairs::vlan_asked` meets its contract: the tag is cut, or it is read.
use Rattle.ingress_pairs.proofs.Laws.{asked_short, asked_tag}
use Rattle.ingress_pairs.proofs.vlan_asked.Goals as goal

pub returns-then-f-lt-TAGGED_ADDRESSES_BYTES : goal.returns-then-f-lt-TAGGED_ADDRESSES_BYTES
returns-then-f-lt-TAGGED_ADDRESSES_BYTES c = asked_short c.args.f.now c.if-f-lt-TAGGED_ADDRESSES_BYTES.true _

pub returns : goal.returns
returns c = asked_tag c.args.f.now _ c.be2-w.ensures.0
