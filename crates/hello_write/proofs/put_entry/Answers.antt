-- `hello_write::put_entry` meets its contract: the room is made, and the sub-TLV put into it.
use Rattle.hello_write.proofs.Walking.{entry-stepped, entry_two, entry-head, entry_room, entry_end, entry-placed}
use borrow.Author.Rules.{rules}
use Rattle.hello_write.proofs.put_entry.Goals as goal

pub open-r-requires : goal.open-r-requires
open-r-requires g c = (((search rules, search rules), (search entry_two, search entry-head)), search entry_room)

pub put_sub-requires : goal.put_sub-requires
put_sub-requires g c = ((search rules, search rules), (search rules, search entry_end))

pub returns : goal.returns
returns g c = ((search entry-stepped, search rules), search entry-placed)
