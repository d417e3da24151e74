-- `hello_write::entries_size` meets its contract. The invariant: what is left to take reaches where the whole does, the cursor, moved over it, is where the whole ends; and no number brings more than nine bytes.
use Rattle.hello_ends.proofs.Shapes.{suffix_sub, many_next}
use Rattle.hello_write.proofs.Sizing.{past_follows, good_within, bad_past, next_within, sized_ordered, sized_most, sized_next, entry_bad, walk_done, walk_follows}
use borrow.Author.Rules.{rules}
use Rattle.hello_write.proofs.entries_size.Goals as goal

pub returns-then-not-entry_good : goal.returns-then-not-entry_good
returns-then-not-entry_good g c = ((search (entry_bad, bad_past), search past_follows), (search rules, search rules))

pub loop-preserved : goal.loop-preserved
loop-preserved g c = ((search (next_within, good_within), (search sized_ordered, search (sized_most, good_within))), (search (many_next, suffix_sub), search (sized_next, good_within)))

pub returns : goal.returns
returns g c = ((search walk_done, search walk_follows), (search rules, search rules))
