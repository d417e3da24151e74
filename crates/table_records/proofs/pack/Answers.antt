-- `table_records::pack` meets its contract: it writes the record's number, and then the mark.
use Prim.Native.Nat.{ℕ}
use mathlib.Core.List.{List}
use mathlib.Core.Path.{ap, ◌∙◌}
use lib.ListN.{length}
use Rattle.numbers.proofs.Bytes.{length-bytes_of}
use Rattle.table.specs.Record.{record_bytes, packed, mark_number}
use Rattle.table_records.proofs.Laws.{put_marked}
use Rattle.table_records.proofs.pack.Goals as goal

pub returns : goal.returns
unfolding packed
returns c =
    let written : List ℕ = c.write.new.fields in
    let w = c.write.ensures in
    let n = c.bits_of.ensures.number in
    rw c.mark_byte.ensures
    (put_marked c.args.slot.now written (mark_number c.args.e.multihomed) c.requires.0 (ap length w ∙ length-bytes_of record_bytes _)
    ∙ rw (w, n))
