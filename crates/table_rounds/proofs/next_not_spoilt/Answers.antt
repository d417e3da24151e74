-- `table_rounds::next_not_spoilt` meets its contract: each slot of the rounds that are passed by is of state 0 and does not begin with zeros.
use mathlib.Core.Path.{refl}
use Rattle.table.specs.Record.{free_state}
use Rattle.table_rounds.proofs.Laws.{passed_rounds}
use Rattle.table_rounds.specs.Rounds.{InOther, Blank}
use Rattle.table_rounds.proofs.next_not_spoilt.Goals as goal

pub returns : goal.returns
returns c =
    let a = c.args in
    let e = c.next_round.ensures in
    let unpacked = passed_rounds (InOther free_state) a.t.now a.from c.next_round.result (λ r l. let p = e.rounds r l in (p.0, (p.1 refl).0)) in
    let some = passed_rounds Blank a.t.now a.from c.next_round.result (λ r l. let p = e.rounds r l in (p.0, (p.1 refl).1)) in
    (e.bounds.0, (e.bounds.1, (unpacked, some)))
