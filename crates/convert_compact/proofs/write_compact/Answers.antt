-- `convert_compact::write_compact` meets its contract: the pieces, one after the other, are the Compact frame.
use Rattle.convert_compact.proofs.Laws.{wrote_compact}
use Rattle.convert_compact.proofs.write_compact.Goals as goal

pub returns : goal.returns
returns c =
    wrote_compact _ _ c.requires.0 _ _ _ _ _ _ c.copy_part.ensures c.put_number.ensures c.copy_part-2.ensures c.after.ensures.0 c.copy_block.ensures
