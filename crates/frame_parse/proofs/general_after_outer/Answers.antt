-- `frame_parse::general_after_outer` meets its contract: each way out is an outcome of the definition.
use native.Mathlib.Omega.{arith}
use Rattle.frame_parse.proofs.Outcomes.{reads_refused}
use Rattle.frame_parse.proofs.Located.{general_reads}
use Rattle.frame_parse.proofs.General.{outer_room, header_room, label_room, header_refused, addresses_cut, label_refused, content_cut, general_whole}
use Rattle.frame_parse.proofs.general_after_outer.Goals as goal

pub after-l-requires : goal.after-l-requires
after-l-requires c = search outer_room

pub after-a-requires : goal.after-a-requires
after-a-requires c = header_room _ _ _ c.in-Ok.ensures

pub returns-then-a-lt-ADDRESSES_BYTES : goal.returns-then-a-lt-ADDRESSES_BYTES
returns-then-a-lt-ADDRESSES_BYTES c =
    reads_refused _ _ _ (addresses_cut _ _ _ c.requires.0 _ c.after-l.ensures.0 _ _ c.in-Ok.ensures c.after-a.ensures.0 c.if-a-lt-ADDRESSES_BYTES.true)

pub after-requires : goal.after-requires
after-requires c = label_room _ _ c.in-Ok-label_length.ensures

pub returns-then-after-lt-LEAST_CONTENT : goal.returns-then-after-lt-LEAST_CONTENT
returns-then-after-lt-LEAST_CONTENT c =
    reads_refused _ _ _
    (content_cut _ _ _ c.requires.0 _ c.after-l.ensures.0 _ _ c.in-Ok.ensures c.after-a.ensures.0 c.if-a-lt-ADDRESSES_BYTES.false _ c.after-t.ensures.0 _ _ c.in-Ok-label_length.ensures c.after.ensures.0 c.if-after-lt-LEAST_CONTENT.true)

pub returns-in-Err : goal.returns-in-Err
returns-in-Err c = reads_refused _ _ _ (header_refused _ _ _ c.requires.0 _ c.after-l.ensures.0 _ c.in-Err.ensures)

pub returns-in-Err-label_length : goal.returns-in-Err-label_length
returns-in-Err-label_length c =
    reads_refused _ _ _
    (label_refused _ _ _ c.requires.0 _ c.after-l.ensures.0 _ _ c.in-Ok.ensures c.after-a.ensures.0 c.if-a-lt-ADDRESSES_BYTES.false _ c.after-t.ensures.0 _ c.in-Err-label_length.ensures)

pub returns-else-after-lt-LEAST_CONTENT : goal.returns-else-after-lt-LEAST_CONTENT
returns-else-after-lt-LEAST_CONTENT c =
    general_reads _ _ (omega arith) (omega arith) (omega arith) _
    (general_whole _ _ _ c.requires.0 _ c.after-l.ensures.0 _ _ c.in-Ok.ensures c.after-a.ensures.0 c.if-a-lt-ADDRESSES_BYTES.false _ c.after-t.ensures.0 _ _ c.in-Ok-label_length.ensures c.after.ensures.0 c.if-after-lt-LEAST_CONTENT.false)
