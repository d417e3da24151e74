-- `table_records::entry_good` meets its contract: each test is made on the field of the record's number.
use Rattle.table_records.proofs.Laws.{good_bits}
use Rattle.table_records.proofs.entry_good.Goals as goal

pub returns : goal.returns
returns c = search good_bits
