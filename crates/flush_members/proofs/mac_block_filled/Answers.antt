-- `flush_members::mac_block_filled` meets its contract: the end is not below the start.
use Rattle.flush_members.proofs.Laws.{macs-filled}
use Rattle.flush_members.proofs.mac_block_filled.Goals as goal

pub returns : goal.returns
returns c = search macs-filled
