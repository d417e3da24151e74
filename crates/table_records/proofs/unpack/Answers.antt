-- `table_records::unpack` meets its contract: the fields, and then the byte of the mark.
use Rattle.table.specs.Record.{unpacked}
use Rattle.table_records.proofs.unpack.Goals as goal

pub returns : goal.returns
unfolding unpacked
returns c = cc
