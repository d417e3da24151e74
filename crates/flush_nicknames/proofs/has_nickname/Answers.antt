-- `flush_nicknames::has_nickname` meets its contract: another byte of the nickname, or the nickname itself.
use Rattle.flush_nicknames.proofs.First.{names_it}
use Rattle.flush_nicknames.proofs.has_nickname.Goals as goal

pub returns : goal.returns
returns g c = names_it _ _ _ c.nickname_at.ensures.0 _ c.has.ensures
