-- `frame_parse::compact_after_label` meets its contract: each way out is an outcome of the definition.
use native.Mathlib.Omega.{arith}
use Rattle.frame_parse.proofs.Outcomes.{reads_refused}
use Rattle.frame_parse.proofs.Located.{compact_reads}
use Rattle.frame_parse.proofs.General.{header_room}
use Rattle.frame_parse.proofs.Compact.{after_room, type_cut, type_bad, header_refused, content_cut, compact_whole}
use Rattle.frame_parse.proofs.compact_after_label.Goals as goal

pub overflow_add-k : goal.overflow_add-k
overflow_add-k c = let h = c.requires in omega (arith, after_room c.args.f.now h.0 c.args.k h.1.0)

pub after-l-requires : goal.after-l-requires
after-l-requires c = search after_room

pub returns-then-l-lt-ETHERTYPE_BYTES : goal.returns-then-l-lt-ETHERTYPE_BYTES
returns-then-l-lt-ETHERTYPE_BYTES c = reads_refused _ _ _ (search type_cut)

pub returns-then-not-has_ethertype : goal.returns-then-not-has_ethertype
returns-then-not-has_ethertype c = reads_refused _ _ _ (search type_bad)

pub after-requires : goal.after-requires
after-requires c = header_room _ _ _ c.in-Ok.ensures

pub returns-then-after-lt-LEAST_CONTENT : goal.returns-then-after-lt-LEAST_CONTENT
returns-then-after-lt-LEAST_CONTENT c =
    let r = c.requires in
    reads_refused _ _ _
    (content_cut _ r.0 _ r.1.0 _ c.after-l.ensures.0 c.if-l-lt-ETHERTYPE_BYTES.false _ c.has_ethertype.ensures c.if-not-has_ethertype.false _ c.after-g.ensures.0 _ _ c.in-Ok.ensures c.after.ensures.0 c.if-after-lt-LEAST_CONTENT.true)

pub returns-in-Err : goal.returns-in-Err
returns-in-Err c =
    let r = c.requires in
    reads_refused _ _ _
    (header_refused _ r.0 _ r.1.0 _ c.after-l.ensures.0 c.if-l-lt-ETHERTYPE_BYTES.false _ c.has_ethertype.ensures c.if-not-has_ethertype.false _ c.after-g.ensures.0 _ c.in-Err.ensures)

pub returns-else-after-lt-LEAST_CONTENT : goal.returns-else-after-lt-LEAST_CONTENT
returns-else-after-lt-LEAST_CONTENT c =
    let r = c.requires in
    compact_reads _ _ (omega arith) (omega arith) (omega arith)
    (compact_whole _ r.0 _ r.1.0 _ c.after-l.ensures.0 c.if-l-lt-ETHERTYPE_BYTES.false _ c.has_ethertype.ensures c.if-not-has_ethertype.false _ c.after-g.ensures.0 _ _ c.in-Ok.ensures c.after.ensures.0 c.if-after-lt-LEAST_CONTENT.false)
