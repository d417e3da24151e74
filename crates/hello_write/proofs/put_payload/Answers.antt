-- `hello_write::put_payload` meets its contract: each section starts where the one before it ends.
use Rattle.hello_write.proofs.Walking.{kinds, back_8, back_23, room_8, room_23, all_placed}
use borrow.Author.Rules.{rules}
use Rattle.hello_write.proofs.put_payload.Goals as goal

pub put_section-c-requires : goal.put_section-c-requires
put_section-c-requires c = (search kinds, (search back_8, (search rules, search room_8)))

pub put_section-requires : goal.put_section-requires
put_section-requires c = (search kinds, (search back_23, (search rules, search room_23)))

pub returns : goal.returns
returns c = search all_placed
