-- `hello_fill::fill_tlvs` meets its contract. The invariant: there is room for what is left, and what is left decides.
use Rattle.hello_fill.proofs.Walks.{room_first, room_here, room_next, room_past, walk_first, walk_past, fill_done, fill_cut}
use Rattle.hello_fill.proofs.Subs.{tlv_stump_words, free}
use Rattle.hello_fill.specs.Filling.{tlv_words}
use Rattle.hello_judge.proofs.Laws.{walk_next}
use mathlib.Core.Path.{refl}
use borrow.Author.Rules.{rules}
use Rattle.hello_fill.proofs.fill_tlvs.Goals as goal

pub loop-at-init : goal.loop-at-init
loop-at-init g c = (
  search rules,
  (
    refl,
    (
      search (room_past (tlv_words g.row.FIRST) (tlv_words g.row.SECOND) (free g.row.FIRST) (free g.row.SECOND), room_first),
      search (walk_first (tlv_words g.row.FIRST) (tlv_words g.row.SECOND) (free g.row.FIRST) (free g.row.SECOND)),
    ),
  ),
)

pub returns-then-l-e : goal.returns-then-l-e
returns-then-l-e g c = search (fill_cut, tlv_stump_words)

pub fill_tlv-p-requires-clause-room : goal.fill_tlv-p-requires-clause-room
fill_tlv-p-requires-clause-room g c = search (room_here (tlv_words g.row.FIRST) (tlv_words g.row.SECOND))

pub loop-at-preserved : goal.loop-at-preserved
loop-at-preserved g c = (
  search rules,
  (
    search rules,
    (
      search (room_past (tlv_words g.row.FIRST) (tlv_words g.row.SECOND) (free g.row.FIRST) (free g.row.SECOND), room_next),
      search (walk_past (tlv_words g.row.FIRST) (tlv_words g.row.SECOND) (free g.row.FIRST) (free g.row.SECOND), walk_next),
    ),
  ),
)

pub returns : goal.returns
returns g c = search fill_done
