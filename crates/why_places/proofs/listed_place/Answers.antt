-- `why_places::listed_place` meets its contract: the place that `position` answers is that of the first nickname that is x.
use Rattle.std.proofs.Common.{rules, arith, sym, ◌∙◌}
use Rattle.std.proofs.lemmas.Iterator.Search.{position_from_yields_List}
use lib.ListN.{length}
use Rattle.numbers.specs.Bytes.{parts}
use Rattle.numbers.specs.Numberings.{nicknames, in_list}
use Rattle.why.specs.Why.{nickname_is}
use Rattle.why_places.proofs.Laws.{one_part}
use Rattle.why_places.proofs.Places.{parts_read, first_alike, place_first}
use Rattle.why_places.proofs.listed_place.Goals as goal

pub returns-in-Some : goal.returns-in-Some
unfolding in_list
returns-in-Some c =
    let n = c.chunks_exact-parts.ensures in
    let v = c.args.nicks.now in
    let q = position_from_yields_List (in_list nicknames c.args.x) _ _ c.position.result c.position.ensures.ran (parts_read 2 (omega arith) v n.size n.rest) (λ x b q k. search rules) in
    place_first (in_list nicknames c.args.x) (parts 2 v) _ (sym c.in-Some.is ∙ q)
    ∙ first_alike 2 (omega arith) (in_list nicknames c.args.x) (nickname_is c.args.x) (λ b e. one_part (nickname_is c.args.x) 2 (omega arith) b e) (length v) v 0 (omega arith)

pub returns-in-None : goal.returns-in-None
unfolding in_list
returns-in-None c =
    let n = c.chunks_exact-parts.ensures in
    let v = c.args.nicks.now in
    let q = position_from_yields_List (in_list nicknames c.args.x) _ _ c.position.result c.position.ensures.ran (parts_read 2 (omega arith) v n.size n.rest) (λ x b q k. search rules) in
    place_first (in_list nicknames c.args.x) (parts 2 v) _ (sym c.in-None.is ∙ q)
    ∙ first_alike 2 (omega arith) (in_list nicknames c.args.x) (nickname_is c.args.x) (λ b e. one_part (nickname_is c.args.x) 2 (omega arith) b e) (length v) v 0 (omega arith)
