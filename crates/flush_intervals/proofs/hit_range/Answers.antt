-- `flush_intervals::hit_range` meets its contract: an empty range, one that no key is near, or the keys between two places.
use Rattle.flush_intervals.proofs.Hits.{range_empty, range_far, front_below, range_order, range_hits}
use native.Mathlib.Omega.{arith}
use borrow.Author.Rules.{rules}
use Rattle.flush_intervals.proofs.hit_range.Goals as goal

pub returns-then-e-s : goal.returns-then-e-s
returns-then-e-s c = range_empty _ _ _ _ c.if-e-s.true

pub returns-then-not-may_meet : goal.returns-then-not-may_meet
returns-then-not-may_meet c = range_far _ _ _ _ _ (search rules) _ c.may_meet.ensures c.if-not-may_meet.true

pub count_from-hi-requires : goal.count_from-hi-requires
count_from-hi-requires c = (search rules, (search rules, (search rules, front_below _ _ _ _ c.count_near-lo.ensures (omega arith))))

pub add_range-requires : goal.add_range-requires
add_range-requires c =
    let within = c.count_from-hi.ensures.within in
    (range_order _ _ _ _ c.count_near-lo.ensures _ c.count_from-hi.ensures (omega arith), search rules)

pub returns : goal.returns
returns c = range_hits _ _ _ _ c.count_near-lo.ensures _ c.count_from-hi.ensures _ _ c.add_range.ensures
