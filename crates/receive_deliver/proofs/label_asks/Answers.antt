-- `receive_deliver::label_asks` meets its contract: a VLAN label, or a fine-grained one.
use Rattle.receive_deliver.proofs.Laws.{low_room, asks_nothing, asks_vlan}
use Rattle.receive_deliver.proofs.label_asks.Goals as goal

pub returns-then-p-eq-TAG_BYTES : goal.returns-then-p-eq-TAG_BYTES
returns-then-p-eq-TAG_BYTES c = search asks_nothing

pub be2-second-requires : goal.be2-second-requires
be2-second-requires c = search low_room

pub returns : goal.returns
returns c =
    asks_vlan c.args.f.now c.args.p c.requires c.if-p-eq-TAG_BYTES.false _ _ c.label_part-high.ensures.0 c.be2-second.ensures.0
