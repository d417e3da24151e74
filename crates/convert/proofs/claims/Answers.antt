-- What `convert::claims` ensures is proved in the modules beside.
use Rattle.convert.proofs.Areas.{convert_refusals}
use Rattle.convert.proofs.Compacting.{reads_same}
use Rattle.convert.proofs.Expanding.{expand_compacted, compact-expanded, control_never_compact}
use Rattle.convert.proofs.Room.{room_for_compaction, send_room}
use Rattle.convert.proofs.Sending.{sends_exactly}
use Rattle.convert.proofs.Shown.{chosen-sent}
use Rattle.convert.proofs.claims.Goals as goal

pub returns : goal.returns
returns c = (reads_same, expand_compacted, compact-expanded, convert_refusals, sends_exactly, room_for_compaction, send_room, chosen-sent, control_never_compact)
