-- `ingress_call::read_native` meets its contract: each test in its order.
use Rattle.ingress_call.proofs.Laws.{native_short, native_long, native_untagged, native_cut, native_vlan, native_empty, native_good}
use Rattle.ingress_call.proofs.read_native.Goals as goal

pub returns-then-n-lt-SHORTEST_FRAME : goal.returns-then-n-lt-SHORTEST_FRAME
returns-then-n-lt-SHORTEST_FRAME c = native_short c.args.f.now c.if-n-lt-SHORTEST_FRAME.true

pub returns-then-n : goal.returns-then-n
returns-then-n c = native_long c.args.f.now c.if-n.true

pub returns-then-not-has_ethertype : goal.returns-then-not-has_ethertype
returns-then-not-has_ethertype c = native_untagged c.args.f.now c.if-n-lt-SHORTEST_FRAME.false c.if-n.false _ c.has_ethertype.ensures c.if-not-has_ethertype.true

pub returns-then-n-lt-TAGGED_ADDRESSES_BYTES : goal.returns-then-n-lt-TAGGED_ADDRESSES_BYTES
returns-then-n-lt-TAGGED_ADDRESSES_BYTES c = native_cut c.args.f.now c.if-n-lt-SHORTEST_FRAME.false c.if-n.false _ c.has_ethertype.ensures c.if-not-has_ethertype.false c.if-n-lt-TAGGED_ADDRESSES_BYTES.true

pub returns-then-not-vlan_good : goal.returns-then-not-vlan_good
returns-then-not-vlan_good c = native_vlan c.args.f.now c.if-n-lt-SHORTEST_FRAME.false c.if-n.false _ c.has_ethertype.ensures c.if-not-has_ethertype.false c.if-n-lt-TAGGED_ADDRESSES_BYTES.false _ c.be2-w.ensures.0 _ c.vlan_good.ensures c.if-not-vlan_good.true

pub returns-then-n-lt-LEAST_CONTENT : goal.returns-then-n-lt-LEAST_CONTENT
returns-then-n-lt-LEAST_CONTENT c = native_empty c.args.f.now c.if-n-lt-SHORTEST_FRAME.false c.if-n.false _ c.has_ethertype.ensures c.if-not-has_ethertype.false c.if-n-lt-TAGGED_ADDRESSES_BYTES.false _ c.be2-w.ensures.0 _ c.vlan_good.ensures c.if-not-vlan_good.false c.if-n-lt-LEAST_CONTENT.true

pub returns : goal.returns
returns c = native_good c.args.f.now c.if-n-lt-SHORTEST_FRAME.false c.if-n.false _ c.has_ethertype.ensures c.if-not-has_ethertype.false c.if-n-lt-TAGGED_ADDRESSES_BYTES.false _ c.be2-w.ensures.0 _ c.vlan_good.ensures c.if-not-vlan_good.false c.if-n-lt-LEAST_CONTENT.false c.be2-w.ensures.1
