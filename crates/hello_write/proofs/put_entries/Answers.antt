-- `hello_write::put_entries` meets its contract. The invariant: what is left, placed at the cursor, is the whole placed.
use Rattle.hello_ends.proofs.Shapes.{suffix_sub, many_next}
use Rattle.hello_write.proofs.Walking.{entry_ordered, entry_good_lem, entries_next, entries_done, entries_end, puts_room, puts_next, puts_done}
use borrow.Author.Rules.{rules}
use Rattle.hello_write.proofs.put_entries.Goals as goal

pub put_entry-w-requires : goal.put_entry-w-requires
put_entry-w-requires g c = (search rules, (search entry_good_lem, (search rules, search puts_room)))

pub loop-preserved : goal.loop-preserved
loop-preserved g c = (search (entry_ordered, entry_good_lem), (search (many_next, suffix_sub), (search entries_next, (search rules, search puts_next))))

pub returns : goal.returns
returns g c = ((search entries_done, search entries_end), (search rules, search puts_done))
