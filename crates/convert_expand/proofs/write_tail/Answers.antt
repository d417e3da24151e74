-- `convert_expand::write_tail` meets its contract: the pieces, one after the other.
use Rattle.convert_expand.proofs.Pieces.{tail_written}
use Rattle.convert_expand.proofs.write_tail.Goals as goal

pub returns : goal.returns
returns c =
    tail_written _ _ c.requires.0 _ _ _ _ _ _ _ c.requires.1 c.put_number.ensures c.copy_part.ensures c.copy_part-2.ensures c.after.ensures.0 c.copy_block.ensures
