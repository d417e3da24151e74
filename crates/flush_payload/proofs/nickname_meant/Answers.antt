-- `flush_payload::nickname_meant` meets its contract: the ingress nickname, or the list.
use borrow.Author.Tests.{eq-eqb, ne_eqb}
use Rattle.flush.specs.Meaning.{nickname_meant}
use Rattle.numbers.proofs.Steps.{pick_first, pick_second}
use Rattle.flush_payload.proofs.nickname_meant.Goals as goal

pub returns-then-nicks-eq0 : goal.returns-then-nicks-eq0
unfolding nickname_meant
returns-then-nicks-eq0 c = search (pick_first, eq-eqb)

pub returns : goal.returns
unfolding nickname_meant
returns c = search (pick_second, ne_eqb)
