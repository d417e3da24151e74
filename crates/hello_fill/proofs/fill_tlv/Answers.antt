-- `hello_fill::fill_tlv` meets its contract: return by return.
use Rattle.hello_fill.proofs.Subs.{skip_two, room_two, body_two}
use Rattle.hello_judge.proofs.Levels.{rest_is}
use Rattle.hello_fill.proofs.fill_tlv.Goals as goal

pub returns-then-h : goal.returns-then-h
returns-then-h g c = search skip_two

pub fill_subs-requires-clause-room : goal.fill_subs-requires-clause-room
fill_subs-requires-clause-room g c = search (room_two, rest_is)

pub returns : goal.returns
returns g c = search (body_two, rest_is)
