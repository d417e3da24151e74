-- `receive_call::tag_of` meets its contract: no map, or what it says.
use Rattle.receive_call.proofs.Laws.{tag_empty}
use Rattle.receive_call.proofs.tag_of.Goals as goal

pub returns-then-map-eq0 : goal.returns-then-map-eq0
returns-then-map-eq0 c = tag_empty c.args.map.now c.if-map-eq0.true _

pub returns : goal.returns
returns c = c.tag_for.ensures _ c.label_asks.ensures
