-- `hello_write::put_front` meets its contract: the second section starts where the first ends.
use Rattle.hello_write.proofs.Walking.{kinds, first_ordered, at_22, at_6, room_22, room_6, front_walked, front_placed}
use borrow.Author.Rules.{rules}
use Rattle.hello_write.proofs.put_front.Goals as goal

pub put_section-w-requires : goal.put_section-w-requires
put_section-w-requires c = (search kinds, (search at_22, (search first_ordered, search room_22)))

pub put_section-requires : goal.put_section-requires
put_section-requires c = (search kinds, (search at_6, (search rules, search room_6)))

pub returns : goal.returns
returns c = (search front_walked, (search rules, search front_placed))
