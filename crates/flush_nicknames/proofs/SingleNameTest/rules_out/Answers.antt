-- A byte of the nickname differs.
use Rattle.flush_nicknames.proofs.First.{middle_out}
use Rattle.flush_nicknames.proofs.SingleNameTest.rules_out.Goals as goal

pub returns : goal.returns
returns c = middle_out _ _ _ c.nickname_middle_at.ensures
