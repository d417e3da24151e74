-- `hello_put::open_tlv` meets its contract: type, length and head are the bytes of one number.
use Rattle.hello_put.proofs.Laws.{opened-capability, opened-geninfo, room_capability, room_geninfo}
use borrow.Author.Rules.{rules}
use Rattle.hello_put.proofs.open_tlv.Goals as goal

pub put_number-requires : goal.put_number-requires
put_number-requires c = search (room_capability, rules)

pub returns-then-h-eq-CAPABILITY : goal.returns-then-h-eq-CAPABILITY
returns-then-h-eq-CAPABILITY c = search opened-capability

pub put_number-requires-2 : goal.put_number-requires-2
put_number-requires-2 c = search (room_geninfo, rules)

pub returns : goal.returns
returns c = search opened-geninfo
