-- `convert_expand::put_general` meets its contract: refused for want of room, or written.
use Rattle.convert_expand.proofs.Pieces.{general_long, general-written}
use Rattle.convert_compact.proofs.Put.{put_short, put_written}
use Rattle.convert_expand.proofs.put_general.Goals as goal

pub returns-then-out-n : goal.returns-then-out-n
returns-then-out-n c = search (put_short, general_long)

pub returns : goal.returns
returns c = search (put_written, general_long, general-written)
