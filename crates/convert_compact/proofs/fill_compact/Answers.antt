-- `convert_compact::fill_compact` meets its contract: the room that it is given is enough, so that the frame is written.
use Rattle.convert_compact.proofs.Laws.{compact_long}
use Rattle.convert_compact.proofs.Put.{fill_written}
use Rattle.convert_compact.proofs.fill_compact.Goals as goal

pub returns : goal.returns
returns c = search (fill_written, compact_long)
