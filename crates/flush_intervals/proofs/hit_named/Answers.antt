-- `flush_intervals::hit_named` meets its contract. The invariant: what is hit and what is left make up the whole.
use Rattle.flush_intervals.proofs.Hits.{still_searched}
use Rattle.flush_intervals.proofs.Walks.{walk_start, walk_cut, walk_next, walk_done}
use borrow.Author.Rules.{rules}
use Rattle.flush_intervals.proofs.hit_named.Goals as goal

pub loop-at-init : goal.loop-at-init
loop-at-init c = search walk_start

pub returns-then-l-e : goal.returns-then-l-e
returns-then-l-e c = search walk_cut

pub hit_value-requires : goal.hit_value-requires
hit_value-requires c = (search rules, search still_searched)

pub loop-at-preserved : goal.loop-at-preserved
loop-at-preserved c = search walk_next

pub returns : goal.returns
returns c = search walk_done
