-- `flush_intervals::hit_single` meets its contract: no key has the number, or it is a range of one.
use Rattle.flush_intervals.proofs.Hits.{single_far}
use borrow.Author.Rules.{rules}
use Rattle.flush_intervals.proofs.hit_single.Goals as goal

pub returns-else-has_alone : goal.returns-else-has_alone
returns-else-has_alone c = single_far _ _ _ _ (search rules) _ c.has_alone.ensures c.if-has_alone.false
