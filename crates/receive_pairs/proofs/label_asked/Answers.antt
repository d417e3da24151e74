-- `receive_pairs::label_asked` meets its contract: a frame that is refused, a VLAN label, a fine-grained one.
use Rattle.frame_parse.proofs.Located.{parts_of}
use Rattle.receive_pairs.proofs.Laws.{asked_refused, asked-nothing, asked_label}
use Rattle.receive_pairs.proofs.label_asked.Goals as goal

pub label_asks-requires : goal.label_asks-requires
label_asks-requires c = parts_of _ _ _ c.parse.ensures.parts c.in-Ok.is

pub returns-in-Err : goal.returns-in-Err
returns-in-Err c = asked_refused _ _ _ c.parse.ensures _ c.in-Err.is _

pub returns-in-Nothing : goal.returns-in-Nothing
returns-in-Nothing c = asked-nothing _ _ _ c.parse.ensures _ c.in-Ok.is _ c.label_asks.ensures c.in-Nothing.is _

pub returns-in-Vlan : goal.returns-in-Vlan
returns-in-Vlan c = asked_label _ _ _ c.parse.ensures _ c.in-Ok.is _ c.label_asks.ensures _ _ c.in-Vlan.is
