-- `frame_copy::part` meets its contract.
use Rattle.frame_copy.proofs.Copying.{part_is}
use Rattle.frame_copy.proofs.part.Goals as goal

pub returns : goal.returns
returns c = part_is c.args.f.now c.args.start c.args.len c.requires
