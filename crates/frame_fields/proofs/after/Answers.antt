-- `frame_fields::after` meets its contract: a part to the end.
use Rattle.frame_fields.proofs.Laws.{after_is}
use Rattle.frame_fields.proofs.after.Goals as goal

pub returns : goal.returns
returns c = after_is c.args.l.now c.args.k
