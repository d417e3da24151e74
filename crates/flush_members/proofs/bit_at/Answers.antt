-- `flush_members::bit_at` meets its contract: a bit of the byte that holds it, or none past the end.
use Rattle.flush_members.proofs.Laws.{bit_none, bit_there}
use Rattle.flush_members.proofs.bit_at.Goals as goal

pub returns-then-v-at : goal.returns-then-v-at
returns-then-v-at c = search bit_none

pub returns : goal.returns
returns c = search bit_there
