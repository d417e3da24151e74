-- `flush_intervals::count_near` meets its contract: from the start or a place whose key before it is below, or by a search.
use Rattle.flush_intervals.proofs.Hits.{none_front, noted_front}
use borrow.Author.Rules.{rules}
use Rattle.flush_intervals.proofs.count_near.Goals as goal

pub count_from-requires : goal.count_from-requires
count_from-requires c = (search rules, (search rules, (search rules, search none_front)))

pub count_from-requires-2 : goal.count_from-requires-2
count_from-requires-2 c = (search rules, (search rules, (search rules, noted_front _ _ _ c.requires.0 c.if-i-eq0.false c.if-keys-i.false c.if-z-keys.false)))
