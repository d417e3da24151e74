-- `flush_members::block_has` meets its contract: a number that there is lies between the ends as they are written.
use Rattle.flush_members.proofs.Laws.{block_tells}
use Rattle.flush_members.proofs.block_has.Goals as goal

pub returns : goal.returns
returns c = search block_tells
