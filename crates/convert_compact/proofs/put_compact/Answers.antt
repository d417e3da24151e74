-- `convert_compact::put_compact` meets its contract: refused for want of room, or written.
use Rattle.convert_compact.proofs.Laws.{compact_long}
use Rattle.convert_compact.proofs.Put.{put_short, put_written}
use Rattle.convert_compact.proofs.put_compact.Goals as goal

pub returns-then-out-n : goal.returns-then-out-n
returns-then-out-n c = search (put_short, compact_long)

pub returns : goal.returns
returns c = search (put_written, compact_long)
