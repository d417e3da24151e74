-- No nickname of the byte is in the set.
use Rattle.flush_nicknames.proofs.First.{byte_out}
use Rattle.flush_nicknames.proofs.ListedNameTest.rules_out.Goals as goal

pub returns : goal.returns
returns c = byte_out _ _ _ c.nickname_high_at.ensures _ c.none_at.ensures
