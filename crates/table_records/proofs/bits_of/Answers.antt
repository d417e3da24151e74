-- `table_records::bits_of` meets its contract: the fields' sum, in two parts.
use native.Mathlib.Omega.{arith}
use Rattle.table_records.proofs.Laws.{join_whole}
use Rattle.table.specs.Record.{record_number}
use Rattle.table.specs.declared.Entry.{Entry}
use Rattle.table_records.proofs.bits_of.Goals as goal

pub returns : goal.returns
unfolding record_number
returns c =
    let e : Entry = c.args.e in
    record {
      number = rw (c.kind_number-kind.ensures.0, c.label_number-label.ensures) (join_whole _ _ e.mac e.nickname e.confidence e.seconds);
      fits = record { high_fits = omega arith; low_fits = omega arith };
    }
