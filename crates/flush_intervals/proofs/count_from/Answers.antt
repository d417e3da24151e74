-- `flush_intervals::count_from` meets its contract: the place itself, the next, or a search.
use Rattle.flush_intervals.proofs.Hits.{from_end, from_here, next_end, next_here}
use Rattle.flush_intervals.proofs.count_from.Goals as goal

pub returns-then-lo-keys : goal.returns-then-lo-keys
returns-then-lo-keys c = search from_end

pub returns-then-y-keys : goal.returns-then-y-keys
returns-then-y-keys c = search from_here

pub returns-then-next-keys : goal.returns-then-next-keys
returns-then-next-keys c = search next_end

pub returns-then-y-keys-2 : goal.returns-then-y-keys-2
returns-then-y-keys-2 c = search next_here
