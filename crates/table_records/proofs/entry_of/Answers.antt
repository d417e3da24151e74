-- `table_records::entry_of` meets its contract, field by field.
use Rattle.table_records.proofs.Laws.{entry_bits}
use Rattle.table_records.proofs.entry_of.Goals as goal

pub returns : goal.returns
returns c = entry_bits c.args.b c.requires.0 _ c.label_of.ensures
