-- `hello_write::put_section` meets its contract: the entries behind the count are those of the section.
use Rattle.hello_write.proofs.Walking.{count-there, next_fits, section_entries, section-walked, section_room, section-placed}
use borrow.Author.Rules.{rules}
use Rattle.hello_write.proofs.put_section.Goals as goal

pub number-m-requires : goal.number-m-requires
number-m-requires g c = search count-there

pub overflow_add-w : goal.overflow_add-w
overflow_add-w g c = search next_fits

pub put_entries-requires : goal.put_entries-requires
put_entries-requires g c = (search rules, (search section_entries, (search rules, search section_room)))

pub returns : goal.returns
returns g c = (search section-walked, (search rules, search section-placed))
