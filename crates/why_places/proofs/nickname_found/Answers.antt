-- `why_places::nickname_found` meets its contract: the sender, or the place that the walk answers.
use Rattle.why_places.proofs.Meant.{sender_meant, sender_not, listed_not, listed_meant, listed_small}
use borrow.Author.Rules.{rules}
use Rattle.why_places.proofs.nickname_found.Goals as goal

pub returns-then-x-ingress : goal.returns-then-x-ingress
returns-then-x-ingress c = search sender_meant

pub returns-then-nicks-eq0 : goal.returns-then-nicks-eq0
returns-then-nicks-eq0 c = search sender_not

pub returns-in_default : goal.returns-in_default
returns-in_default c = search listed_not

pub overflow_cast-k : goal.overflow_cast-k
overflow_cast-k c = search (listed_small, rules)

pub returns : goal.returns
returns c = search listed_meant
