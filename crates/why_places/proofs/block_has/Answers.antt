-- `why_places::block_has` meets its contract: of a VLAN that there is the ends tell as they are written.
use Rattle.why_places.proofs.Laws.{block_told}
use Rattle.why_places.proofs.block_has.Goals as goal

pub returns : goal.returns
returns c = block_told c.args.b.now 0 c.args.x _ _ c.be2-start.ensures.0 c.be2-end.ensures.0 c.requires.1.0 c.requires.1.1
