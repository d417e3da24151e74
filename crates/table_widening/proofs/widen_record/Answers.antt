-- `table_widening::widen_record` meets its contract: the two parts, of which the second has the zero byte, one over the end of the other.
use Rattle.numbers.specs.Bytes.{AreBytes}
use Rattle.table_widening.proofs.Laws.{record_pasted}
use Rattle.table_widening.proofs.widen_record.Goals as goal

pub returns : goal.returns
returns c =
    let a = c.args in
    let bytes : AreBytes a.old.now = λ i. (c.shared_slice_known-1.given i).fits in
    record_pasted a.old.now a.out.now bytes a.from a.at c.requires.0 c.requires.1 _ _ c.be8.ensures.0 c.be8-last.ensures.0 _ _ c.put_head.ensures c.put_head-2.ensures
