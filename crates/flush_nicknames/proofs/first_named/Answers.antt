-- `flush_nicknames::first_named` meets its contract. The invariant: no slot from `from` on and before `k` has such a nickname.
use Rattle.flush_nicknames.proofs.First.{first_next}
use Rattle.flush_nicknames.proofs.first_named.Goals as goal

pub loop-k-preserved : goal.loop-k-preserved
loop-k-preserved g c = search first_next
