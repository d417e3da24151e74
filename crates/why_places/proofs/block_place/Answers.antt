-- `why_places::block_place` meets its contract: the place that `position` answers is that of the first block that has x in it.
use Rattle.std.proofs.Common.{rules, arith, sym, ◌∙◌}
use Rattle.std.proofs.lemmas.Iterator.Search.{position_from_yields_List}
use Rattle.numbers.specs.Bytes.{parts}
use Rattle.numbers.specs.Numberings.{vlans, in_block}
use Rattle.why_places.proofs.Laws.{block_below, block_above}
use Rattle.why_places.proofs.Places.{parts_read, place_first}
use Rattle.why_places.proofs.block_place.Goals as goal

pub returns-then-x-lt-FIRST_VLAN : goal.returns-then-x-lt-FIRST_VLAN
returns-then-x-lt-FIRST_VLAN c = search block_below

pub returns-then-x-gt-LAST_VLAN : goal.returns-then-x-gt-LAST_VLAN
returns-then-x-gt-LAST_VLAN c = search block_above

pub returns-in-Some : goal.returns-in-Some
returns-in-Some c =
    let n = c.chunks_exact-blocks.ensures in
    let q = position_from_yields_List (in_block vlans c.args.x) _ _ c.position.result c.position.ensures.ran (parts_read 4 (omega arith) c.args.v.now n.size n.rest) (λ x b q k. search rules) in
    place_first (in_block vlans c.args.x) (parts 4 c.args.v.now) _ (sym c.in-Some.is ∙ q)

pub returns-in-None : goal.returns-in-None
returns-in-None c =
    let n = c.chunks_exact-blocks.ensures in
    let q = position_from_yields_List (in_block vlans c.args.x) _ _ c.position.result c.position.ensures.ran (parts_read 4 (omega arith) c.args.v.now n.size n.rest) (λ x b q k. search rules) in
    place_first (in_block vlans c.args.x) (parts 4 c.args.v.now) _ (sym c.in-None.is ∙ q)
