-- `table_learning::judge` meets its contract.
use mathlib.Core.Path.{refl}
use Rattle.table_learning.proofs.Laws.{judge_kept, judge_refreshed}
use Rattle.table_learning.proofs.judge.Goals as goal

pub returns-then-mine-confidence_at : goal.returns-then-mine-confidence_at
returns-then-mine-confidence_at c =
    let a = c.args in
    judge_kept a.e a.table.now a.k a.count c.requires.1 _ _ refl c.confidence_at.ensures c.if-mine-confidence_at.true

pub returns : goal.returns
returns c =
    let a = c.args in
    judge_refreshed a.e a.table.now a.k a.count c.requires.1 _ _ refl c.confidence_at.ensures c.if-mine-confidence_at.false _ _ c.make_room.ensures c.put.ensures
