-- `receive_deliver::label_of` meets its contract: a VLAN, or fine-grained.
use Rattle.receive_deliver.proofs.Laws.{vlan_read, low_room, fine_read}
use Rattle.receive_deliver.proofs.label_of.Goals as goal

pub returns-then-p-eq-TAG_BYTES : goal.returns-then-p-eq-TAG_BYTES
returns-then-p-eq-TAG_BYTES c =
    vlan_read c.args.f.now c.args.p c.requires _ c.label_part-high.ensures.0 c.if-p-eq-TAG_BYTES.true

pub label_part-low-requires : goal.label_part-low-requires
label_part-low-requires c = search low_room

pub returns : goal.returns
returns c =
    fine_read c.args.f.now c.args.p c.requires _ _ c.label_part-high.ensures.0 c.label_part-low.ensures.0 c.if-p-eq-TAG_BYTES.false
