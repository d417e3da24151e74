-- `table_learning::learn` meets its contract.
use Rattle.table_learning.proofs.Laws.{learn_kept, learn_judges, learn_judged, learn_free}
use Rattle.table_learning.proofs.learn.Goals as goal

pub returns-then-h : goal.returns-then-h
returns-then-h c =
    let a = c.args in
    learn_kept a.e a.table.now _ c.homes_of-h.ensures c.if-h.true

pub judge-requires : goal.judge-requires
judge-requires c =
    let a = c.args in
    (c.requires, learn_judges a.e a.table.now _ c.homes_of-h.ensures _ c.rival-p.ensures _ c.in-Some.is)

pub returns-in-Some : goal.returns-in-Some
returns-in-Some c =
    let a = c.args in
    learn_judged a.e a.table.now _ c.homes_of-h.ensures c.if-h.false _ c.rival-p.ensures _ _ _ c.in-Some.is c.judge.ensures

pub returns-in-None : goal.returns-in-None
returns-in-None c =
    let a = c.args in
    learn_free a.e a.table.now _ c.homes_of-h.ensures c.if-h.false _ c.rival-p.ensures _ _ c.in-None.is c.into_free.ensures
