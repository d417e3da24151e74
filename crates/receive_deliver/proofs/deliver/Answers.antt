-- `receive_deliver::deliver` meets its contract: 13, 22, 16, or delivered.
use Rattle.receive_deliver.proofs.Laws.{group_out, missing_out, short_out, done}
use native.Mathlib.Omega.{arith}
use Rattle.receive_deliver.proofs.deliver.Goals as goal

pub returns-then-is_trill_group : goal.returns-then-is_trill_group
returns-then-is_trill_group c = search group_out

pub returns-then-tag_missing : goal.returns-then-tag_missing
returns-then-tag_missing c = search missing_out

pub returns-then-out-n : goal.returns-then-out-n
returns-then-out-n c = search short_out

pub overflow_cast-result : goal.overflow_cast-result
overflow_cast-result c =
    omega (arith, c.requires.1.0.longest, c.tag_bytes-k.ensures.1)

pub returns : goal.returns
returns c =
    let a = c.args in
    done a.f.now a.p c.requires.1.0 a.s a.v c.requires.1.1 a.table.now a.out.now a.tag _ c.is_trill_group.ensures c.if-is_trill_group.false _ c.tag_missing.ensures c.if-tag_missing.false _ c.tag_bytes-k.ensures.0 c.if-out-n.false _ c.label_of-label.ensures.0 _ c.is_marked-mark.ensures _ c.learned_entry-entry.ensures.0 _ _ c.teach-how.ensures _ c.write_native.ensures
