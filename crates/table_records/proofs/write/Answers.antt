-- `table_records::write` meets its contract: the parts' bytes, one after the other, are the record's.
use Prim.Native.Nat.{ℕ}
use mathlib.Core.List.{List}
use mathlib.Core.Path.{◌≡◌, sym, ap, ◌∙◌}
use native.Mathlib.Omega.{arith}
use lib.ListN.{length}
use Rattle.numbers.specs.Bytes.{bytes_of}
use Rattle.numbers.proofs.Bytes.{length-bytes_of, bytes_of_join, put_two}
use Rattle.table_records.specs.declared.RecordBits.{RecordBits}
use Rattle.table_records.proofs.write.Goals as goal

pub returns : goal.returns
returns c =
    let b : RecordBits = c.args.b in
    let ys : List ℕ = c.fill8.new.s in
    let zs : List ℕ = c.fill6.new.s in
    let first : ys ≡ bytes_of 8 b.high = c.fill8.ensures in
    let second : zs ≡ bytes_of 6 b.low = c.fill6.ensures in
    put_two c.args.fields.now ys zs 8 6 c.requires.0 (ap length first ∙ length-bytes_of 8 b.high) (ap length second ∙ length-bytes_of 6 b.low)
    ∙ rw (first, second) (sym (bytes_of_join 8 6 b.high b.low (omega arith)))
