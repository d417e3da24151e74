-- `port_map_search::vlan_for` meets its contract: `find` stops at the first pair that is the one sought.
use Rattle.std.proofs.Common.{rules, tests, ap, ◌∙◌}
use Rattle.port_map_search.proofs.Pairs.{vlan_found}
use Rattle.port_map_search.proofs.vlan_for.Goals as goal
use Rattle.std.specs.Prelude.{Ok}

pub returns-in-Some : goal.returns-in-Some
returns-in-Some c =
    let n = c.chunks_exact-pairs.ensures in
    ap Ok c.vlan_at.ensures ∙ (rw c.in-Some.is at (vlan_found c.find.result _ c.args.map.now c.args.l n.size n.rest c.find.ensures.ran (λ x b q k. search (rules, tests))))

pub returns-in-None : goal.returns-in-None
returns-in-None c =
    let n = c.chunks_exact-pairs.ensures in
    rw c.in-None.is at (vlan_found c.find.result _ c.args.map.now c.args.l n.size n.rest c.find.ensures.ran (λ x b q k. search (rules, tests)))
