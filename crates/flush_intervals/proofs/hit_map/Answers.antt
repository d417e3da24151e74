-- `flush_intervals::hit_map` meets its contract. The invariant: the keys before key i have their bits.
use Rattle.flush_intervals.proofs.Hits.{map_short, far_hits, map_start, map_done, map_past, map_next}
use borrow.Author.Rules.{rules}
use Rattle.flush_intervals.proofs.hit_map.Goals as goal

pub returns-then-v-w : goal.returns-then-v-w
returns-then-v-w c = map_short _ _ _ _ c.if-v-w.true

pub returns-then-not-may_meet : goal.returns-then-not-may_meet
returns-then-not-may_meet c = far_hits _ _ _ c.map_low-s.ensures.1 c.map_past-e.ensures.1 _ _ _ (search rules) _ c.may_meet.ensures c.if-not-may_meet.true

pub loop-i-init : goal.loop-i-init
loop-i-init c = map_start _ _ _ _ _ c.map_low-s.ensures.1 c.map_past-e.ensures.1 _ c.count_near-i.ensures

pub returns-then-e-x : goal.returns-then-e-x
returns-then-e-x c = map_past _ _ _ _ _ c.map_low-s.ensures.1 c.map_past-e.ensures.1 (search rules) _ _ c.loop-i.invariant (search rules) c.if-e-x.true

pub add_if-requires : goal.add_if-requires
add_if-requires c = let long = c.loop-i.invariant.so_far.long in search rules

pub loop-i-preserved : goal.loop-i-preserved
loop-i-preserved c = map_next _ _ _ _ _ c.loop-i.invariant (search rules) _ c.map_has.ensures _ c.add_if.ensures

pub returns : goal.returns
returns c = map_done _ _ _ _ _ c.map_low-s.ensures.1 c.map_past-e.ensures.1 (search rules) _ _ c.loop-i.invariant (search rules)
