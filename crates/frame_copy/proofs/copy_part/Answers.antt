-- `frame_copy::copy_part` meets its contract: the two parts, one after the other.
use Rattle.frame_copy.proofs.Copying.{from_two}
use Rattle.frame_copy.proofs.copy_part.Goals as goal

pub returns : goal.returns
returns c =
    from_two _ _ _ _ _ _ _ _ _ _ c.requires.0.0 c.requires.1.0 c.requires.1.1 c.part.ensures.0 c.copy_block.ensures c.part-2.ensures.0 c.copy_at.ensures
