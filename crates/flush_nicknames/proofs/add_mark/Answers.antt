-- `flush_nicknames::add_mark` meets its contract: the bit of the slot is added to its byte.
use Rattle.flush_nicknames.proofs.First.{mark_added}
use Rattle.flush_nicknames.proofs.add_mark.Goals as goal

pub returns : goal.returns
returns c = search mark_added
