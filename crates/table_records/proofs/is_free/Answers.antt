-- `table_records::is_free` meets its contract: both parts are 0 exactly where the number is.
use Rattle.table_records.proofs.Laws.{free_bits}
use Rattle.table_records.proofs.is_free.Goals as goal

pub returns : goal.returns
returns c = free_bits c.args.b
