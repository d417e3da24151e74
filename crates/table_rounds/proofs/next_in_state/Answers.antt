-- `table_rounds::next_in_state` meets its contract: no slot of the rounds that are passed by is in the state.
use mathlib.Core.Path.{refl}
use Rattle.table_rounds.proofs.Laws.{passed_rounds}
use Rattle.table_rounds.specs.Rounds.{InState}
use Rattle.table_rounds.proofs.next_in_state.Goals as goal

pub returns : goal.returns
returns c =
    let e = c.next_round.ensures in
    let each = passed_rounds (InState c.args.state) c.args.t.now c.args.from c.next_round.result (λ r l. let p = e.rounds r l in (p.0, p.1 refl)) in
    (e.bounds.0, (e.bounds.1, each))
