-- `flush_named::add_where` meets its contract.
use Rattle.flush_named.proofs.Laws.{all_added}
use Rattle.flush_named.proofs.add_where.Goals as goal

pub returns : goal.returns
returns c = search all_added
