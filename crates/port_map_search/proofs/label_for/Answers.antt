-- `port_map_search::label_for` meets its contract: `find` stops at the first pair that is the one sought.
use Rattle.std.proofs.Common.{rules, tests, ap, ◌∙◌}
use Rattle.port_map_search.proofs.Pairs.{label_found}
use Rattle.port_map_search.proofs.label_for.Goals as goal
use Rattle.std.specs.Prelude.{Ok}

pub returns-in-Some : goal.returns-in-Some
returns-in-Some c =
    let n = c.chunks_exact-pairs.ensures in
    ap Ok c.label_at.ensures ∙ (rw c.in-Some.is at (label_found c.find.result _ c.args.map.now c.args.v n.size n.rest c.find.ensures.ran (λ x b q k. search (rules, tests))))

pub returns-in-None : goal.returns-in-None
returns-in-None c =
    let n = c.chunks_exact-pairs.ensures in
    rw c.in-None.is at (label_found c.find.result _ c.args.map.now c.args.v n.size n.rest c.find.ensures.ran (λ x b q k. search (rules, tests)))
